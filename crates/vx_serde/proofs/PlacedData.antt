-- Buffers that are placed one after the other.
use Rattle.std.specs.Prelude.{ℕ, zero, suc, ◌≡◌, ◌<◌, ◌≤◌, ◌+◌, List, [], ◌∷◌, ◌++◌, length, replicate, refl}
use Rattle.std.proofs.Common.{arith, sym, ◌∙◌, ap, subst, append_assoc, append-nil, length-append, get_or, drop, drop-cons}
use Rattle.std.proofs.lemmas.List.{length-replicate}
use Rattle.vx_buffer.specs.Buffer.{Buffer}
use Rattle.vx_serde.specs.declared.options.SerializeOptions.{SerializeOptions}
use Rattle.vx_serde.specs.Placing.{pad, data_from, data_end}
use Rattle.vx_buffer.specs.Joined.{joined}
use Rattle.vx_serde.specs.WrittenBuffers.{unaligned, pad_buffers, data_buffers}

-- ---- positions

-- Buffers end no earlier than they may start.
pub data_end-least : (o : SerializeOptions) (p : ℕ) (bs : List Buffer) → p ≤ data_end o p bs
data_end-least o p [] = omega arith
data_end-least o p (b ∷ bs) = omega (arith, data_end-least o (p + pad o b.exponent p + length b.bytes) bs)

-- The first of those that are left ends no later than all of them.
pub data_end-next : (o : SerializeOptions) (p : ℕ) (bs : List Buffer) (i : ℕ) (b : Buffer) → i < length bs → b ≡ get_or bs i b → p + pad o b.exponent p + length b.bytes ≤ data_end o p (drop i bs)
data_end-next o p bs i b h e =
    rw (drop-cons bs i b)
    (let P : Buffer → Type 0 = λ d. p + pad o b.exponent p + length b.bytes ≤ data_end o p (d ∷ drop (suc i) bs) in
    subst P e (data_end-least o (p + pad o b.exponent p + length b.bytes) (drop (suc i) bs)))

-- ---- bytes

pub joined-append : (bs cs : List Buffer) → joined (bs ++ cs) ≡ joined bs ++ joined cs
joined-append [] cs = refl
joined-append (b ∷ bs) cs = ap (λ r. b.bytes ++ r) (joined-append bs cs) ∙ sym (append_assoc b.bytes (joined bs) (joined cs))

pub joined-pad : (n : ℕ) → joined (pad_buffers n) ≡ replicate n 0
joined-pad zero = refl
joined-pad (suc n) = append-nil (replicate (suc n) 0)

pub joined-data : (o : SerializeOptions) (p : ℕ) (bs : List Buffer) → joined (data_buffers o p bs) ≡ data_from o p bs
joined-data o p [] = refl
joined-data o p (b ∷ bs) =
    joined-append (pad_buffers (pad o b.exponent p)) (unaligned b.bytes ∷ data_buffers o (p + pad o b.exponent p + length b.bytes) bs)
    ∙ ap (λ r. r ++ (b.bytes ++ joined (data_buffers o (p + pad o b.exponent p + length b.bytes) bs))) (joined-pad (pad o b.exponent p))
    ∙ ap (λ r. replicate (pad o b.exponent p) 0 ++ (b.bytes ++ r)) (joined-data o (p + pad o b.exponent p + length b.bytes) bs)

-- The length of the data in bytes.
pub length-data : (o : SerializeOptions) (p : ℕ) (bs : List Buffer) → p + length (data_from o p bs) ≡ data_end o p bs
length-data o p [] = omega arith
length-data o p (b ∷ bs) =
    let rest = data_from o (p + pad o b.exponent p + length b.bytes) bs in
    omega (arith, length-append (replicate (pad o b.exponent p) 0) (b.bytes ++ rest), length-append b.bytes rest, length-replicate {A = ℕ} (pad o b.exponent p) 0, length-data o (p + pad o b.exponent p + length b.bytes) bs)
