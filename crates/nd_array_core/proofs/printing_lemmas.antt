-- Lemmas of the text of an array.
pub mod TextsInTurn
