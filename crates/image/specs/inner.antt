-- What the functions' own statements speak of. None of it need be believed: no public promise reaches it, and the laws show what it comes to.
pub mod Rows
