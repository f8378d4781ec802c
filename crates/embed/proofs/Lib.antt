-- The door to a seat as code has it: a seat that an index takes out of the array.
mod Chairs
