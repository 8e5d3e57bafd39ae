-- The footer of a file that stands in a larger one, by the pieces of it that were loaded.
use Rattle.std.proofs.Common.{ℕ, ◌≡◌, ◌+◌, ◌-◌, ◌<◌, ◌≤◌, List, Option, Some, None, length, take, drop, refl, sym, ap, ◌∙◌, arith}
use Rattle.std.specs.Prelude.{slice_range}
use Rattle.std.proofs.lemmas.List.{length-take, length-drop}
use Rattle.vx_forms.specs.Frame.{cut_frame, footer_len}
use Rattle.vx_file.specs.Loading.{len_by_ends}
use Rattle.vx_file.specs.Selecting.{part_of}
use Rattle.vx_file.proofs.FramePieces.{cut_short, cut_ends, len_is, cut_room, cut_found}
use Rattle.vx_file.proofs.Parts.{part_of_part, part_length}

-- A part of under twelve bytes has no footer.
pub short_frame : (word bytes : List ℕ) (start len : ℕ) → len < 12 → cut_frame word (part_of bytes start len) ≡ None
short_frame word bytes start len h =
    let own = part_of bytes start len in
    let few : length own < 12 = omega (arith, length-take (start + len - start) (drop start bytes), h) in
    cut_short word own (length own) refl few

module _ (word bytes : List ℕ) (start len : ℕ) (head tail : List ℕ) (room : 12 ≤ len) (head_is : head ≡ part_of bytes (start + 0) 4)
    (tail_is : tail ≡ part_of bytes (start + (len - 8)) 8) (tail_len : length tail ≡ 8) where
  -- The last eight bytes are there, so all are.
  fits : start + len ≤ length bytes
  fits =
      let at = start + (len - 8) in
      let eight : length (part_of bytes at 8) ≡ 8 = sym (ap length tail_is) ∙ tail_len in
      omega (arith, eight, room, length-take (at + 8 - at) (drop at bytes), length-drop at bytes)

  size_is : length (part_of bytes start len) ≡ len
  size_is = part_length bytes start len fits

  own_part : (offset n : ℕ) → offset + n ≤ len → part_of bytes (start + offset) n ≡ slice_range (part_of bytes start len) offset (offset + n)
  own_part offset n h = sym (part_of_part bytes start len offset n h)

  head_own : head ≡ slice_range (part_of bytes start len) 0 (0 + 4)
  head_own = head_is ∙ own_part 0 4 (omega (arith, room))

  tail_own : tail ≡ slice_range (part_of bytes start len) (len - 8) (len - 8 + 8)
  tail_own = tail_is ∙ own_part (len - 8) 8 (omega (arith, room))

  -- The ends are not the word.
  pub no_ends : len_by_ends word head tail ≡ None → cut_frame word (part_of bytes start len) ≡ None
  no_ends e = cut_ends word (part_of bytes start len) len size_is head tail room head_own tail_own e

  -- The footer's length.
  pub own_len : (n : ℕ) → len_by_ends word head tail ≡ Some n → footer_len (part_of bytes start len) ≡ n
  own_len n e = len_is word (part_of bytes start len) len size_is head tail room head_own tail_own n e

  -- The footer has no room.
  pub no_room : (n : ℕ) → len_by_ends word head tail ≡ Some n → len - 12 < n → cut_frame word (part_of bytes start len) ≡ None
  no_room n e h = cut_room word (part_of bytes start len) len size_is head tail room head_own tail_own n e h

  -- The footer, at its offset.
  pub frame_found : (n : ℕ) (footer : List ℕ) → len_by_ends word head tail ≡ Some n → n ≤ len - 12 → footer ≡ part_of bytes (start + (len - 8 - n)) n
      → cut_frame word (part_of bytes start len) ≡ Some (record { value = footer; offset = len - 8 - n })
  frame_found n footer e h is =
      cut_found word (part_of bytes start len) len size_is head tail room head_own tail_own n footer e h
      (is ∙ own_part (len - 8 - n) n (omega (arith, h, room)))
