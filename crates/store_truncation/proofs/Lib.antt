-- A law on a share that is cut above an id.
pub mod CutRows
