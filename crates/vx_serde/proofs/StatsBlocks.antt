-- The blocks of a set of statistics, as a builder of tables has them.
use Rattle.std.proofs.Common.{◌≡◌, ◌<◌, ◌^◌, ◌⊎◌, length, true, sym, subst, inl, inr}
use Rattle.vx_flat.specs.Building.{Built, Written, Keeps, RefusesPieces}
use Rattle.vx_types.specs.Typ.{Typ}
use Rattle.vx_scalars.specs.Stats.{Stats, FitStats}
use Rattle.vx_scalar_wire.specs.StatsSchema.{stats_fields, stats_schema}
use Rattle.vx_scalar_wire.specs.StatsTable.{stats_table, stats_pieces}
use Rattle.vx_scalar_wire.specs.StatsUnwritten.{RefusesWritingStats}
use Rattle.vx_scalar_wire.specs.declared.error.ScalarWireError.{ScalarWireError}
use Rattle.vx_scalar_wire.specs.declared.error.ScalarWireError.TheVariants.{OutOfMemory, MessageTooLong}
use Rattle.vx_scalar_wire.proofs.LawsWriting.{fit_written}
use Rattle.vx_flat.specs.Building.{AreWritten}
use Rattle.vx_serde.specs.WritingSteps.{builder_refusal}

-- The blocks of a set were written,
pub written_blocks : (x y : Stats) → x ≡ y → (old new : Built) → Written stats_schema stats_fields (stats_table x) old new → length new.bytes < 2 ^ 31 → AreWritten old (stats_pieces y) new
written_blocks x y same old new h short =
    let P : Stats → Type 0 = λ z. AreWritten old (stats_pieces z) new in
    subst P same (record { some = tt; blocks = h.blocks; linked = h.linked; fits = short })

stopped_by : (e : ScalarWireError) (y : Stats) (old new : Built) → (e ≡ OutOfMemory) ⊎ (e ≡ MessageTooLong) → Keeps old (stats_pieces y) new → RefusesWritingStats e y old → (e ≡ MessageTooLong → new.failed ≡ true)
    → RefusesPieces old (stats_pieces y) (builder_refusal e) new
stopped_by e y old new (inl q) k u f =
    let P : ScalarWireError → Type 0 = λ z. RefusesPieces old (stats_pieces y) (builder_refusal z) new in
    subst P (sym q) k
stopped_by e y old new (inr q) k u f =
    let P : ScalarWireError → Type 0 = λ z. RefusesPieces old (stats_pieces y) (builder_refusal z) new in
    let Q : ScalarWireError → Type 0 = λ z. RefusesWritingStats z y old in
    subst P (sym q) (k, f q, subst Q q u)

-- or they were not: allocation failed, or with them the message is too long.
pub stopped_for : (d : Typ) (x y : Stats) → x ≡ y → FitStats d y → (old new : Built) (e : ScalarWireError) → Keeps old (stats_pieces x) new → RefusesWritingStats e x old → (e ≡ MessageTooLong → new.failed ≡ true)
    → RefusesPieces old (stats_pieces y) (builder_refusal e) new
stopped_for d x y same fits old new e k u f =
    let P : Stats → Type 0 = λ z. Keeps old (stats_pieces z) new in
    let Q : Stats → Type 0 = λ z. RefusesWritingStats e z old in
    stopped_by e y old new (fit_written e d y old fits (subst Q same u)) (subst P same k) (subst Q same u) f
