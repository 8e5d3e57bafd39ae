use Rattle.std.proofs.Common.{◌∙◌, sym, ap, ◌≡◌, Some, refl}
use Rattle.vx_flat.specs.Places.{target_at}
use Rattle.vx_flat.specs.Reading.{table_shown}
use Rattle.vx_flat.specs.Parts.{elements_of_kind}
use Rattle.vx_flat.specs.Seen.{schema_in, part_in, field_or_absent}
use Rattle.vx_flat.proofs.SeeingElements.{have, vector_present}
use Rattle.vx_flat.proofs.viewing.View.vector_of.Goals as goal

pub u32_at-count-requires : goal.u32_at-count-requires
u32_at-count-requires c =
    let v = c.args.self.now in
    let s = schema_in v in
    let m = v.message.now in
    let k = c.args.kind in
    let p = vector_present s (λ q T. table_shown s m q T) m k c.in-Some.place (Some k) refl c.requires.vector in
    let e : elements_of_kind s (λ q T. table_shown s m q T) m k (target_at m c.in-Some.place) ≡ Some (part_in v c.args.field) =
    sym p.2 ∙ c.in-Some.ensures.shown in
    rw c.target_at-place.ensures (have s (λ q T. table_shown s m q T) m (target_at m c.in-Some.place) k (rw e refl)).0

pub returns-clause-part : goal.returns-clause-part
returns-clause-part c =
    let v = c.args.self.now in
    let s = schema_in v in
    let m = v.message.now in
    let k = c.args.kind in
    let p = vector_present s (λ q T. table_shown s m q T) m k c.in-Some.place (Some k) refl c.requires.vector in
    let e : elements_of_kind s (λ q T. table_shown s m q T) m k (target_at m c.in-Some.place) ≡ Some (part_in v c.args.field) =
    sym p.2 ∙ c.in-Some.ensures.shown in
    let at = ap (λ q. field_or_absent (elements_of_kind s (λ q T. table_shown s m q T) m k q)) c.target_at-place.ensures in
    sym (at ∙ ap field_or_absent e)
