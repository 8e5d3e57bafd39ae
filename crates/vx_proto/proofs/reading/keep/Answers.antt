use Rattle.std.proofs.Common.{◌≡◌, ◌<◌, ℕ, zero, suc, eqb, false, Ok, List, ◌∙◌, ap, sym, arith, vec_len}
use Rattle.vx_proto.specs.Reading.{kept_of}
use Rattle.vx_proto.specs.Value.{Entry}
use Rattle.vx_proto.proofs.Lasts.{last_some}
use Rattle.vx_proto.proofs.reading.keep.Goals as goal

some_left : (n : ℕ) → eqb n 0 ≡ false → 0 < n
some_left zero e = absurd cc
some_left (suc n) e = omega arith

pub returns-in_ok-keep_last-in-Plain : goal.returns-in_ok-keep_last-in-Plain
unfolding kept_of
returns-in_ok-keep_last-in-Plain c =
    let r = c.args.entries.now in
    let some : 0 < vec_len r = some_left (vec_len r) (sym c.is_empty.ensures ∙ c.if-is_empty.false) in
    rw c.in-Plain.is (ap (λ (t : List Entry). Ok t) (last_some _ r.items (omega (arith, some, r.ok)) ∙ sym c.in_ok-keep_last-in-Plain.ensures))
