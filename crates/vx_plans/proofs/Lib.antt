mod Alone
mod Validities
