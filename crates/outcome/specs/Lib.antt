-- What a public function promises.
pub mod Outcome
