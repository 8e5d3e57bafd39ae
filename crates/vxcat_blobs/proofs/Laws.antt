-- What holds of how each command ends, for the table of commands.
-- No command ends with the number of no command.
pub use Rattle.vxcat_blobs.proofs.Endings.{recode_not_two, expr_not_two}
pub use Rattle.vxcat_blobs.proofs.MakeEndings.{make_not_two}
-- Where no count of faults rises, a command that can end well ends with 0 or 1.
pub use Rattle.vxcat_blobs.proofs.Completeness.{recode_complete, expr_complete}
pub use Rattle.vxcat_blobs.proofs.MakeEndings.{make_complete}
-- Words invoke one line of a command at most.
pub use Rattle.vxcat_blobs.proofs.Completeness.{line_same, file_same}
