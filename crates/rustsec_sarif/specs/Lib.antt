pub mod SarifTree
pub mod SarifWords
