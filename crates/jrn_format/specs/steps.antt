-- What private functions read, step by step. The files of the folder above state the grammar that it is proved to agree with.
pub mod Reading
