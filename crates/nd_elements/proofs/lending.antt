-- Lemmas of elements and slices that a storage lends.
pub mod ReborrowedPlaces
