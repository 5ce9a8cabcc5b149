pub mod MeshChildren
