pub mod CacheFile
pub mod IndexFile
pub mod IndexFolder
pub mod IndexLines
pub mod IndexPath
pub mod YankedPackages
