-- What contracts see of a thread's end.

-- the site as it was when the work began, the site as it is now, and the log of the jobs
pub record Stay (S L : Type 0) : Type 0 where
  pub start : S
  pub site : S
  pub log : L
