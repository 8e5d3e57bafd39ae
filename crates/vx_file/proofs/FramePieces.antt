-- A file's footer is found by its first four bytes and its last eight.
use Rattle.std.proofs.Common.{ℕ, ◌≡◌, ◌+◌, ◌-◌, ◌<◌, ◌≤◌, Bool, true, false, cond, ◌&&◌, List, Option, Some, None, length, take, drop, refl, sym, ap, ◌∙◌, arith}
use Rattle.std.specs.Prelude.{nat_lt, bytes_eq, slice_range}
use Rattle.std.specs.Int.{w32, from_le_bytes}
use Rattle.std.proofs.lemmas.Bool.{lt-ltb, le-ltb}
use Rattle.std.proofs.lemmas.List.{drop-drop, length-drop, take_all}
use Rattle.vx_forms.specs.Frame.{Framed, footer_len, has_ends, footer_bytes, cut_frame}
use Rattle.vx_file.specs.Loading.{len_by_ends}

short : {A : Type 0} (b : Bool) (o : Option A) → b ≡ true → cond b None o ≡ None
short b o e = rw e refl

long : {A : Type 0} (b : Bool) (o : Option A) → b ≡ false → cond b None o ≡ o
long b o e = rw e refl

module _ (word bytes : List ℕ) (size : ℕ) (size_is : length bytes ≡ size) where
  pub cut_short : size < 12 → cut_frame word bytes ≡ None
  cut_short h = short (nat_lt (length bytes) 12) (cond (has_ends word bytes) (footer_bytes bytes (footer_len bytes)) None) (lt-ltb (length bytes) 12 (omega (arith, size_is, h)))

  module _ (head tail : List ℕ) (room : 12 ≤ size) (head_is : head ≡ slice_range bytes 0 (0 + 4)) (tail_is : tail ≡ slice_range bytes (size - 8) (size - 8 + 8)) where
    first_is : head ≡ take 4 bytes
    first_is = head_is

    -- The last eight bytes are all that stands from their offset on.
    tail_all : tail ≡ drop (size - 8) bytes
    tail_all =
        let n : size - 8 + 8 - (size - 8) ≡ 8 = omega arith in
        tail_is ∙ (ap (λ k. take k (drop (size - 8) bytes)) n ∙ take_all 8 (drop (size - 8) bytes) (omega (arith, length-drop (size - 8) bytes, size_is, room)))

    last_is : drop 4 tail ≡ drop (length bytes - 4) bytes
    last_is =
        let n : size - 8 + 4 ≡ length bytes - 4 = omega (arith, size_is, room) in
        ap (λ z. drop 4 z) tail_all ∙ (drop-drop 4 (size - 8) bytes ∙ ap (λ k. drop k bytes) n)

    count_is : take 4 tail ≡ slice_range bytes (length bytes - 8) (length bytes - 4)
    count_is =
        let n : 4 ≡ length bytes - 4 - (length bytes - 8) = omega (arith, size_is, room) in
        let m : size - 8 ≡ length bytes - 8 = omega (arith, size_is) in
        ap (λ z. take 4 z) tail_all ∙ (ap (λ k. take 4 (drop k bytes)) m ∙ ap (λ k. take k (drop (length bytes - 8) bytes)) n)

    whole_pieces : len_by_ends word head tail ≡ cond (has_ends word bytes) (Some (footer_len bytes)) None
    whole_pieces =
        ap (λ z. cond (bytes_eq z word && bytes_eq (drop 4 tail) word) (Some (from_le_bytes w32 (take 4 tail))) None) first_is
        ∙ (ap (λ z. cond (bytes_eq (take 4 bytes) word && bytes_eq z word) (Some (from_le_bytes w32 (take 4 tail))) None) last_is
        ∙ ap (λ z. cond (has_ends word bytes) (Some (from_le_bytes w32 z)) None) count_is)

    roomy : cut_frame word bytes ≡ cond (has_ends word bytes) (footer_bytes bytes (footer_len bytes)) None
    roomy = long (nat_lt (length bytes) 12) (cond (has_ends word bytes) (footer_bytes bytes (footer_len bytes)) None) (le-ltb (length bytes) 12 (omega (arith, size_is, room)))

    none_of : (b : Bool) (n : ℕ) (o : Option (Framed (List ℕ))) → cond b (Some n) None ≡ None → cond b o None ≡ None
    none_of true n o e = absurd (cc)
    none_of false n o e = refl

    record Told (b : Bool) (m n : ℕ) : Type 0 where
      holds : b ≡ true
      same : m ≡ n

    told_by : (b : Bool) (m n : ℕ) → cond b (Some m) None ≡ Some n → Told b m n
    told_by true m n e = record { holds = refl; same = cc }
    told_by false m n e = absurd (cc)

    pub cut_ends : len_by_ends word head tail ≡ None → cut_frame word bytes ≡ None
    cut_ends e = roomy ∙ none_of (has_ends word bytes) (footer_len bytes) (footer_bytes bytes (footer_len bytes)) (sym whole_pieces ∙ e)

    pub len_is : (n : ℕ) → len_by_ends word head tail ≡ Some n → footer_len bytes ≡ n
    len_is n e = (told_by (has_ends word bytes) (footer_len bytes) n (sym whole_pieces ∙ e)).same

    at_len : (n : ℕ) → len_by_ends word head tail ≡ Some n → cut_frame word bytes ≡ footer_bytes bytes n
    at_len n e =
        let told = told_by (has_ends word bytes) (footer_len bytes) n (sym whole_pieces ∙ e) in
        roomy ∙ (ap (λ b. cond b (footer_bytes bytes (footer_len bytes)) None) told.holds ∙ ap (λ m. footer_bytes bytes m) told.same)

    pub cut_room : (n : ℕ) → len_by_ends word head tail ≡ Some n → size - 12 < n → cut_frame word bytes ≡ None
    cut_room n e h = at_len n e ∙ short (nat_lt (length bytes - 12) n) (Some (record { value = slice_range bytes (length bytes - 8 - n) (length bytes - 8); offset = length bytes - 8 - n })) (lt-ltb (length bytes - 12) n (omega (arith, size_is, h)))

    pub cut_found : (n : ℕ) (footer : List ℕ) → len_by_ends word head tail ≡ Some n → n ≤ size - 12 → footer ≡ slice_range bytes (size - 8 - n) (size - 8 - n + n)
        → cut_frame word bytes ≡ Some (record { value = footer; offset = size - 8 - n })
    cut_found n footer e h is =
        let a : length bytes - 8 - n ≡ size - 8 - n = omega (arith, size_is) in
        let b : length bytes - 8 ≡ size - 8 - n + n = omega (arith, size_is, h, room) in
        at_len n e ∙ (long (nat_lt (length bytes - 12) n) (Some (record { value = slice_range bytes (length bytes - 8 - n) (length bytes - 8); offset = length bytes - 8 - n })) (le-ltb (length bytes - 12) n (omega (arith, size_is, h)))
        ∙ (ap (λ k. Some (record { value = slice_range bytes (length bytes - 8 - n) k; offset = length bytes - 8 - n })) b
        ∙ (ap (λ k. Some (record { value = slice_range bytes k (size - 8 - n + n); offset = k })) a
        ∙ ap (λ z. Some (record { value = z; offset = size - 8 - n })) (sym is))))
