-- Files with a footer: what is read is what the footer shows, and what is written shows its footer.
use Rattle.std.proofs.Common.{ℕ, ◌≡◌, ◌+◌, ◌-◌, ◌≤◌, ◌<◌, ◌^◌, Bool, true, false, cond, List, ◌++◌, Option, Some, None, length, take, drop, refl, sym, ap, ◌∙◌, subst, arith, length-append, append_assoc}
use Rattle.std.specs.Prelude.{nat_lt, bytes_eq, slice_range}
use Rattle.std.specs.Int.{w32, from_le_bytes}
use Rattle.std.proofs.Math.Seq.{take-append_seam, drop-append_seam}
use Rattle.std.proofs.lemmas.List.{take-append-drop, take_at, drop_at, drop-drop, length-take, length-drop}
use Rattle.std.proofs.lemmas.Bool.{and_parts, and_from, ltb-false, le-ltb}
use Rattle.std.proofs.lemmas.Slice.Eq.{bytes_eq-Decides}
use Rattle.vx_trees.specs.Bytes.{AreBytes}
use Rattle.vx_forms.specs.Form.{Form, IsLawful, read_all}
use Rattle.vx_forms.specs.Numbers.{uint32}
use Rattle.vx_forms.specs.Frame.{IsFile, IsFramed, Framed, framed_at, framed_as, footer_len, footer_bytes, has_ends, cut_frame, read_framed, frame_end, framed_bytes, FitsFrame}
use Rattle.vx_forms.proofs.LawsOfForms.{all_back, all_only}
use Rattle.vx_forms.proofs.LawsOfBytes.{bytes_before, bytes_after}
use Rattle.vx_forms.proofs.LawsOfNumbers.{uint32_lawful, uint32_canonical}

-- ---- tests

-- There are enough bytes, so a test of their number is passed.
enough : {A : Type 0} (m n : ℕ) (o : Option A) → n ≤ m → cond (nat_lt m n) None o ≡ o
enough m n o h = rw (le-ltb m n h) refl

-- An answer stands only where there are enough.
has_enough : {A : Type 0} (m n : ℕ) (o : Option A) (x : A) → cond (nat_lt m n) None o ≡ Some x → (n ≤ m) × (o ≡ Some x)
has_enough m n o x e = let w = other_where (nat_lt m n) o x e in (ltb-false m n w.0, w.1)
  where
    other_where : {A : Type 0} (b : Bool) (o : Option A) (x : A) → cond b None o ≡ Some x → (b ≡ false) × (o ≡ Some x)
    other_where true o x e = absurd (cc)
    other_where false o x e = (refl, e)

-- An answer stands only where the test is true.
first_where : {A : Type 0} (b : Bool) (o : Option A) (x : A) → cond b o None ≡ Some x → (b ≡ true) × (o ≡ Some x)
first_where true o x e = (refl, e)
first_where false o x e = absurd (cc)

record_is : {A : Type 0} (x y : Framed A) → ◌≡◌ {A = Option (Framed A)} (Some x) (Some y) → x ≡ y
record_is x y e = cc

-- ---- parts of bytes

-- A part in the middle is what stands there.
middle : (bytes xs ys zs : List ℕ) (i j : ℕ) → bytes ≡ xs ++ (ys ++ zs) → i ≡ length xs → j ≡ length xs + length ys
    → slice_range bytes i j ≡ ys
middle bytes xs ys zs i j e ei ej =
    let size : j - i ≡ length ys = omega (arith, ei, ej) in
    ap (λ n. take n (drop i bytes)) size
    ∙ (ap (λ k. take (length ys) (drop k bytes)) ei
    ∙ (ap (λ z. take (length ys) (drop (length xs) z)) e
    ∙ (ap (λ z. take (length ys) z) (drop-append_seam xs (ys ++ zs)) ∙ take-append_seam ys zs)))

-- What follows an offset is a part up to another offset, and what follows that.
cut : (bytes : List ℕ) (i j : ℕ) → i ≤ j → drop i bytes ≡ slice_range bytes i j ++ drop j bytes
cut bytes i j h =
    let there : i + (j - i) ≡ j = omega (arith, h) in
    sym (take-append-drop (j - i) (drop i bytes)) ∙ ap (λ z. slice_range bytes i j ++ z)
    (drop-drop (j - i) i bytes ∙ ap (λ k. drop k bytes) there)

-- The length of a part.
part_len : (bytes : List ℕ) (i j : ℕ) → j ≤ length bytes → length (slice_range bytes i j) ≡ j - i
part_len bytes i j h = omega (arith, length-take (j - i) (drop i bytes), length-drop i bytes, h)

-- ---- the bytes of a footer

module _ (word : List ℕ) (four : length word ≡ 4) where
  -- The parts of a file by their offsets.
  record Placed (bytes footer : List ℕ) (offset : ℕ) : Type 0 where
    room : 12 ≤ length bytes
    ends : has_ends word bytes ≡ true
    count : footer_len bytes ≡ length footer
    fits : length footer ≤ length bytes - 12
    part : slice_range bytes (length bytes - 8 - length footer) (length bytes - 8) ≡ footer
    offset_is : length bytes - 8 - length footer ≡ offset

  placed : (bytes body footer count : List ℕ) → bytes ≡ word ++ (body ++ (footer ++ (count ++ word)))
      → uint32.Shows (length footer) count → Placed bytes footer (length word + length body)
  placed bytes body footer count e shown =
      let whole_len : length bytes ≡ 4 + (length body + (length footer + (4 + 4)))
      = ap length e
      ∙ omega (
        arith,
        four,
        shown.len,
        length-append word (body ++ (footer ++ (count ++ word))),
        length-append body (footer ++ (count ++ word)),
        length-append footer (count ++ word),
        length-append count word,
      ) in
      let before : List ℕ = word ++ (body ++ footer) in
      let before_len : length before ≡ 4 + (length body + length footer) =
      omega (arith, four, length-append word (body ++ footer), length-append body footer) in
      let by_count : bytes ≡ before ++ (count ++ word)
      = e ∙ (ap (λ z. word ++ z) (sym (append_assoc body footer (count ++ word)))
      ∙ sym (append_assoc word (body ++ footer) (count ++ word))) in
      let front_len : length (word ++ body) ≡ 4 + length body = omega (arith, four, length-append word body) in
      let by_footer : bytes ≡ (word ++ body) ++ (footer ++ (count ++ word)) = e
      ∙ sym (append_assoc word body (footer ++ (count ++ word))) in
      let by_word : bytes ≡ (before ++ count) ++ word = by_count ∙ sym (append_assoc before count word) in
      let to_word : length (before ++ count) ≡ length bytes - 4 =
      omega (arith, before_len, whole_len, shown.len, length-append before count) in
      let at_front : take 4 bytes ≡ word = ap (λ z. take 4 z) e
      ∙ take_at word (body ++ (footer ++ (count ++ word))) 4 four in
      let at_end : drop (length bytes - 4) bytes ≡ word = ap (λ z. drop (length bytes - 4) z) by_word
      ∙ drop_at (before ++ count) word (length bytes - 4) to_word in
      let count_is : slice_range bytes (length bytes - 8) (length bytes - 4) ≡ count
      = middle bytes before count word (length bytes - 8) (length bytes - 4) by_count
      (omega (arith, before_len, whole_len)) (omega (arith, before_len, whole_len, shown.len)) in
      record {
        room = omega (arith, whole_len);
        ends = and_from (bytes_eq (take 4 bytes) word) (bytes_eq (drop (length bytes - 4) bytes) word)
            ((bytes_eq-Decides (take 4 bytes) word).1 at_front)
            ((bytes_eq-Decides (drop (length bytes - 4) bytes) word).1 at_end);
        count = ap (λ z. from_le_bytes w32 z) count_is ∙ shown.value;
        fits = omega (arith, whole_len);
        part = middle bytes (word ++ body) footer (count ++ word) (length bytes - 8 - length footer) (length bytes - 8)
            by_footer (omega (arith, front_len, whole_len)) (omega (arith, front_len, whole_len));
        offset_is = omega (arith, four, whole_len);
      }

  cut_placed : (bytes footer : List ℕ) (offset : ℕ) → Placed bytes footer offset
      → cut_frame word bytes ≡ Some (record { value = footer; offset = offset })
  cut_placed bytes footer offset at =
      enough (length bytes) 12 (cond (has_ends word bytes) (footer_bytes bytes (footer_len bytes)) None) at.room
      ∙ (ap (λ b. cond b (footer_bytes bytes (footer_len bytes)) None) at.ends
      ∙ (ap (λ n. footer_bytes bytes n) at.count
      ∙ (enough (length bytes - 12) (length footer)
      (Some (record {
        value = slice_range bytes (length bytes - 8 - length footer) (length bytes - 8);
        offset = length bytes - 8 - length footer;
      })) at.fits
      ∙ (ap (λ z. Some (record { value = z; offset = length bytes - 8 - length footer })) at.part
      ∙ ap (λ p. Some (record { value = footer; offset = p })) at.offset_is))))

  -- The bytes of a file's footer are found, with their offset.
  pub cut_back : (bytes footer : List ℕ) (offset : ℕ) → IsFile word bytes footer offset
      → cut_frame word bytes ≡ Some (record { value = footer; offset = offset })
  cut_back bytes footer offset is =
      cut_placed bytes footer (length word + length is.body) (placed bytes is.body footer is.count is.parts is.counted)
      ∙ ap (λ p. Some (record { value = footer; offset = p })) (sym is.offset_is)

  joined_parts : (bytes : List ℕ) (n : ℕ) → 12 ≤ length bytes → n ≤ length bytes - 12 → take 4 bytes ≡ word
      → drop (length bytes - 4) bytes ≡ word
      → bytes ≡ word ++ (slice_range bytes 4 (length bytes - 8 - n)
      ++ (slice_range bytes (length bytes - 8 - n) (length bytes - 8)
      ++ (slice_range bytes (length bytes - 8) (length bytes - 4) ++ word)))
  joined_parts bytes n room fits front back =
      let a = length bytes - 8 - n in
      let b = length bytes - 8 in
      let c = length bytes - 4 in
      let ab : 4 ≤ a = omega (arith, room, fits) in
      let bb : a ≤ b = omega (arith, room, fits) in
      let cb : b ≤ c = omega (arith, room, fits) in
      sym (take-append-drop 4 bytes)
      ∙ (ap (λ z. z ++ drop 4 bytes) front
      ∙ ap (λ z. word ++ z) (cut bytes 4 a ab
      ∙ ap (λ z. slice_range bytes 4 a ++ z) (cut bytes a b bb
      ∙ ap (λ z. slice_range bytes a b ++ z) (cut bytes b c cb
      ∙ ap (λ z. slice_range bytes b c ++ z) back))))

  cut_parts : (bytes : List ℕ) (x : Framed (List ℕ)) → 12 ≤ length bytes → has_ends word bytes ≡ true
      → footer_bytes bytes (footer_len bytes) ≡ Some x → IsFile word bytes x.value x.offset
  cut_parts bytes x room ends e =
      let n = footer_len bytes in
      let found : Framed (List ℕ) =
      record {
        value = slice_range bytes (length bytes - 8 - n) (length bytes - 8);
        offset = length bytes - 8 - n;
      } in
      let at = has_enough (length bytes - 12) n (Some found) x e in
      let same : found ≡ x = record_is found x at.1 in
      let both = and_parts (bytes_eq (take 4 bytes) word) (bytes_eq (drop (length bytes - 4) bytes) word) ends in
      let fits : n ≤ length bytes - 12 = at.0 in
      let len : length (slice_range bytes (length bytes - 8 - n) (length bytes - 8)) ≡ n
      = part_len bytes (length bytes - 8 - n) (length bytes - 8) (omega (arith, room)) ∙ omega (arith, room, fits) in
      subst (λ (y : Framed (List ℕ)). IsFile word bytes y.value y.offset) same
      (record {
        body = slice_range bytes 4 (length bytes - 8 - n);
        count = slice_range bytes (length bytes - 8) (length bytes - 4);
        parts = joined_parts bytes n room fits ((bytes_eq-Decides (take 4 bytes) word).0 both.0)
            ((bytes_eq-Decides (drop (length bytes - 4) bytes) word).0 both.1);
        counted = record {
          len = part_len bytes (length bytes - 8) (length bytes - 4) (omega (arith, room))
              ∙ omega (arith, room);
          value = sym len;
        };
        offset_is = omega (arith, four, room, fits, part_len bytes 4 (length bytes - 8 - n) (omega (arith, room)));
      })

  -- And nothing else is found.
  pub cut_only : (bytes : List ℕ) (x : Framed (List ℕ)) → cut_frame word bytes ≡ Some x
      → IsFile word bytes x.value x.offset
  cut_only bytes x e =
      let a = has_enough (length bytes) 12
      (cond (has_ends word bytes) (footer_bytes bytes (footer_len bytes)) None) x e in
      let b = first_where (has_ends word bytes) (footer_bytes bytes (footer_len bytes)) x a.1 in
      cut_parts bytes x a.0 b.0 b.1

  -- A file has one footer at most, at one offset.
  pub one_footer : (bytes x y : List ℕ) (p q : ℕ) → IsFile word bytes x p → IsFile word bytes y q → (x ≡ y) × (p ≡ q)
  one_footer bytes x y p q s t =
      let same = record_is (record { value = x; offset = p }) (record { value = y; offset = q })
      (sym (cut_back bytes x p s) ∙ cut_back bytes y q t) in
      (ap (λ (z : Framed (List ℕ)). z.value) same, ap (λ (z : Framed (List ℕ)). z.offset) same)

-- ---- what is written

pub file_written : (word body footer : List ℕ) → length footer < 2 ^ 32
    → IsFile word (word ++ (body ++ frame_end word footer)) footer (length word + length body)
file_written word body footer h = record {
  body = body;
  count = uint32.write (length footer);
  parts = refl;
  counted = uint32_lawful.written (length footer) h;
  offset_is = refl;
}

-- The bytes of a file are those that are written for its body and its footer.
pub file_same : (word bytes footer : List ℕ) (offset : ℕ) → AreBytes bytes → (file : IsFile word bytes footer offset)
    → bytes ≡ word ++ (file.body ++ frame_end word footer)
file_same word bytes footer offset h file =
    let are : AreBytes file.count
    = bytes_before file.count word
    (bytes_after footer (file.count ++ word)
    (bytes_after file.body (footer ++ (file.count ++ word))
    (bytes_after word (file.body ++ (footer ++ (file.count ++ word))) (subst AreBytes file.parts h)))) in
    file.parts ∙ ap (λ (z : List ℕ). word ++ (file.body ++ (footer ++ (z ++ word))))
    (uint32_canonical.same (length footer) file.count are file.counted)

-- An end after a word and a body makes a file.
pub file_ended : (word old new body footer : List ℕ) → length footer < 2 ^ 32 → old ≡ word ++ body
    → new ≡ old ++ frame_end word footer → IsFile word new footer (length old)
unfolding file_written
file_ended word old new body footer h e n =
    let file = file_written word body footer h in
    let all : new ≡ word ++ (body ++ frame_end word footer) = n ∙ ap (λ (z : List ℕ). z ++ frame_end word footer) e
    ∙ append_assoc word body (frame_end word footer) in
    record {
      body = body;
      count = file.count;
      parts = all ∙ file.parts;
      counted = file.counted;
      offset_is = ap length e
          ∙ length-append word body;
    }

-- ---- what a footer shows

-- What was found came from a footer's bytes.
record IsFramedAs {A : Type 0} (f : Form A) (o : Option (Framed (List ℕ))) (x : Framed A) : Type 0 where
  footer : List ℕ
  found : o ≡ Some (record { value = footer; offset = x.offset })
  read : read_all f footer ≡ Some x.value

framed_from : {A : Type 0} (f : Form A) (o : Option (Framed (List ℕ))) (x : Framed A) → framed_as f o ≡ Some x
    → IsFramedAs f o x
framed_from f None x e = absurd (cc)
framed_from f (Some y) x e = at (read_all f y.value) refl e
  where
    at : (o : Option _) → read_all f y.value ≡ o → framed_at y.offset o ≡ Some x → IsFramedAs f (Some y) x
    at None r h = absurd (cc)
    at (Some v) r h =
        let same = record_is (record { value = v; offset = y.offset }) x h in
        subst (λ (z : Framed _). IsFramedAs f (Some y) z) same (record { footer = y.value; found = refl; read = r })

module _ {A : Type 0} (word : List ℕ) (f : Form A) (law : IsLawful f) (four : length word ≡ 4) where
  -- A file is read as what its footer shows, at its offset.
  pub framed_back : (bytes : List ℕ) (x : A) (offset : ℕ) → IsFramed word f bytes x offset
      → read_framed word f bytes ≡ Some (record { value = x; offset = offset })
  framed_back bytes x offset is =
      ap (λ o. framed_as f o) (cut_back word four bytes is.footer offset is.file)
      ∙ ap (λ o. framed_at offset o) (all_back f law x is.footer is.shown)

  -- And as nothing else.
  pub framed_only : (bytes : List ℕ) (x : Framed A) → read_framed word f bytes ≡ Some x
      → IsFramed word f bytes x.value x.offset
  framed_only bytes x e =
      let a = framed_from f (cut_frame word bytes) x e in
      record {
        footer = a.footer;
        file = cut_only word four bytes (record { value = a.footer; offset = x.offset })
            a.found;
        shown = all_only f law a.footer x.value a.read;
      }

  -- A file shows one value at most.
  pub one_framed : (bytes : List ℕ) (x y : A) (p q : ℕ) → IsFramed word f bytes x p → IsFramed word f bytes y q
      → (x ≡ y) × (p ≡ q)
  one_framed bytes x y p q s t =
      let same = record_is (record { value = x; offset = p }) (record { value = y; offset = q })
      (sym (framed_back bytes x p s) ∙ framed_back bytes y q t) in
      (ap (λ (z : Framed A). z.value) same, ap (λ (z : Framed A). z.offset) same)

  -- What is written for a footer that fits is a file of it.
  pub framed_written : (body : List ℕ) (x : A) → FitsFrame f x
      → IsFramed word f (framed_bytes word f body x) x (length word + length body)
  framed_written body x h =
      record { footer = f.write x; file = file_written word body (f.write x) h.len; shown = law.written x h.fits }
