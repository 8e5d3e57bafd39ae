use Rattle.std.proofs.Common.{◌<◌, arith, zero, suc, ℕ, ◌≡◌, Bool, false, vec_len, sym, ◌∙◌}
use Rattle.std.specs.Prelude.{◌==◌}
use Rattle.vx_proto.proofs.Views.{taken}
use Rattle.vx_proto.proofs.element.take_message.Goals as goal

some_left : (n : ℕ) → (n == 0) ≡ false → 0 < n
some_left zero e = absurd cc
some_left (suc n) e = omega arith

trans : (a b c : Bool) → a ≡ b → a ≡ c → b ≡ c
trans a b c p q = sym p ∙ q

pub returns : goal.returns
returns c = taken c.args.slots.items c.args.slot c.swap_remove-entries.result c.swap_remove-element.result c.in-Message.inner (omega (arith, c.if-slot-len.false)) c.swap_remove-entries.ensures.value
    (let r = c.swap_remove-entries.result in let k : 0 < vec_len r = some_left _ (trans c.is_empty.result (vec_len r == 0) false c.is_empty.ensures c.if-is_empty.false) in omega (arith, k, r.ok)) c.swap_remove-element.ensures.value c.in-Message.is
