use Rattle.std.proofs.Common.{◌∙◌, ◌++◌, ◌∷◌, ℕ, List, Some, ap, sym}
use Rattle.std.proofs.lemmas.Result.{err_from_is_err_and}
use Rattle.vx_flat.specs.Building.{Built, IsPartWay, Link, RefusesPieces}
use Rattle.vx_flat.specs.Pieces.{Piece}
use Rattle.vx_scalar_wire.specs.StatsBlocks.{vector_pieces, vector_links}
use Rattle.vx_trees.proofs.LawsOfResults.{at_error}
use Rattle.vx_scalar_wire.proofs.Chains.{at_idle, went_on, went_wrong}
use Rattle.vx_scalar_wire.proofs.stats.writing.write_bytes.Goals as goal

pub link-requires-clause-idle : goal.link-requires-clause-idle
link-requires-clause-idle c = λ works. at_idle c.args.table c.args.index c.args.bytes.now _ c.args.builder.now c.in-Some.is c.requires

pub returns-clause-written : goal.returns-clause-written
returns-clause-written c = λ b p ls ps h.
    let is = c.in-Some.is ∙ ap (λ (x : List ℕ). Some x) (sym c.as_slice.ensures) in
    went_on c.args.table c.args.index c.args.bytes.now c.as_slice.result.now c.args.builder.now c.link.new.self c.vector.new.self is c.link.ensures.waits c.in_ok-vector.ensures.written b p ls ps h

pub returns-in_err-vector-clause-stopped : goal.returns-in_err-vector-clause-stopped
returns-in_err-vector-clause-stopped c =
    let r = c.from_residual.result in
    let q = err_from_is_err_and r c.from_residual.ensures.1 in
    let e = c.in_err-vector.field-0.0 in
    let o = c.args.bytes.now in
    let is = c.in-Some.is ∙ ap (λ (x : List ℕ). Some x) (sym c.as_slice.ensures) in
    at_error r q.0 e
    (λ z. (b : Built) (p : Piece) (ls : List Link) (ps rest : List Piece) → IsPartWay b p (vector_links c.args.table c.args.index o ++ ls) ps c.args.builder.now
    → RefusesPieces b ((p ∷ ps) ++ (vector_pieces o ++ rest)) z c.vector.new.self)
    q.1 q.2
    (λ b p ls ps rest h. went_wrong c.args.table c.args.index o c.as_slice.result.now c.args.builder.now c.link.new.self c.vector.new.self e is c.link.ensures.waits c.in_err-vector.ensures.refused b p ls ps rest h)
