mod Completeness
mod Outcomes
