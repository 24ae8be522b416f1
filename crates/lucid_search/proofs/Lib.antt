pub mod Common
pub mod SiteLemmas
pub mod NumberedLemmas
pub mod NoteLemmas
