-- What the program does with its input and its output.
pub mod Program
