pub mod FoldersInMemory
