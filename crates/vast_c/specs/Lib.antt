-- What C sees of a session, and the words of the exports' clauses.
pub mod Seen
pub mod SeenPacked
pub mod Internal
