-- Written and read, read and written: both follow from which files the reader accepts. Assumes nothing.
use Prim.Native.Nat.{ℕ, ◌*◌, ◌/◌, ◌^◌, ◌≤◌}
use native.Mathlib.Omega.{arith}
use mathlib.Core.Path.{◌≡◌, refl, sym, ◌∙◌, ap}
use mathlib.Core.List.{List, ◌++◌, append-nil}
use lib.ListN.{length, drop}
use lib.Seq.{drop-length}
use borrow.Author.Tests.{le-ltb}
use Rattle.numbers.specs.Little.{Below}
use Rattle.answer.specs.Answer.{answered, left}
use Rattle.faults.proofs.Faults.{faultless_is_sound}
use Rattle.hxm.specs.Format.{node_words, cell_numbers, Mesh, file_of, fault_in, mesh_of, Good}
use Rattle.hxm.specs.Reads.{mesh_into, coords_of, corners_of}
use Rattle.hxm.proofs.Format.{same_mesh, files_of_meshes}
use Rattle.hxm_write.specs.Writes.{mesh_of_lists, file_into}
use Rattle.hxm_write.specs.Circles.{Circles}
use Rattle.hxm_write.proofs.Ladder.{Written, written, answers}

module _ (m : Mesh) (g : Good m) where
  lists_of : mesh_of_lists m.coords m.corners ≡ m
  lists_of = same_mesh _ _ _ _ _ _ _ _ (rw g.coords_whole (omega arith)) (rw g.corners_whole (omega arith)) refl refl

  pub good_answered : (room : ℕ) → length (file_of m) ≤ room → file_into room m.coords m.corners ≡ answered (file_of m)
  good_answered room fits =
      answers room m.coords m.corners (file_of m) (record {
        nodes_few = omega (arith, g.coords_whole, g.nodes_few);
        cells_few = omega (arith, g.corners_whole, g.cells_few);
        nodes_whole = rw g.coords_whole (omega arith);
        cells_whole = rw g.corners_whole (omega arith);
        faultless =
            ap fault_in lists_of
            ∙ faultless_is_sound.faultless m.nodes cell_numbers m.corners (λ c h. g.sound c (omega (arith, g.corners_whole)));
        file = ap file_of lists_of;
        fits = fits;
      })

module _ (room : ℕ) (nodes cells s : List ℕ) (are : Below (2 ^ 64) nodes) (e : file_into room nodes cells ≡ answered s) where
  abbrev mesh : Mesh
  mesh = mesh_of_lists nodes cells

  abbrev rungs : Written room nodes cells s
  rungs = written room nodes cells s e

  is_good : Good mesh
  is_good =
      record {
        nodes_few = omega (arith, rungs.nodes_few);
        cells_few = omega (arith, rungs.cells_few);
        coords_whole = omega (arith, rungs.nodes_whole);
        corners_whole = omega (arith, rungs.cells_whole);
        patterns = are;
        sound = faultless_is_sound.sound mesh.nodes cell_numbers cells rungs.faultless;
      }

  written_read : mesh_of s ≡ answered mesh
  written_read = rw (← rungs.file) (files_of_meshes.complete mesh is_good)

  lists_back : (words numbers : List ℕ) → length words ≡ length nodes → length numbers ≡ length cells
      → (left (coords_of (mesh_into (length words) (length numbers) s)) words ≡ nodes)
      × (left (corners_of (mesh_into (length words) (length numbers) s)) numbers ≡ cells)
  unfolding mesh_into
  lists_back words numbers en ec =
      let room : node_words * (length nodes / node_words) ≤ length words = omega arith in
      let space : cell_numbers * (length cells / cell_numbers) ≤ length numbers = omega arith in
      rw (written_read, le-ltb _ _ room, le-ltb _ _ space) (whole nodes words en, whole cells numbers ec)
    where
      whole : (new old : List ℕ) → length old ≡ length new → new ++ drop (length new) old ≡ new
      whole new old e = rw (← e, drop-length old) (append-nil new)

pub circles : Circles
circles =
    record {
      written_read = written_read;
      lists_back = λ room nodes cells s words numbers are e. lists_back room nodes cells s are e words numbers;
      read_written = λ room s m are e fits.
          let file = files_of_meshes.accepted s m are e in
          rw file.1 (good_answered m file.0 room (rw file.1 at fits));
      answered_good = λ room nodes cells s are e.
          let w = written room nodes cells s e in
          (is_good room nodes cells s are e, sym w.file, w.fits);
      good_answered = λ room m g. good_answered m g room;
    }
