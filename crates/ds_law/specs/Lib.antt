pub mod TwoDocuments
