-- Lemmas of a part of a storage that is handed to a task.
pub mod StoragePartLent
