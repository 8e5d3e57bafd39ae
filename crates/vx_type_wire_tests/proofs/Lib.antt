pub mod WorkedIntegers
