-- Files between two equal words, with a footer and its length at the end.
use Rattle.std.specs.Prelude.{ℕ, Bool, ◌≡◌, ◌+◌, ◌-◌, ◌<◌, ◌^◌, List, ◌++◌, Option, Some, None, length, take, drop, slice_range, nat_lt, bytes_eq, ◌&&◌, if◌then◌else◌}
use Rattle.std.specs.Int.{w32, from_le_bytes}
use Rattle.vx_forms.specs.Form.{Form, read_all}
use Rattle.vx_forms.specs.Numbers.{uint32}

-- A file is its word, a body, the bytes of its footer, their number in four bytes, and the word
-- again; the footer begins at an offset.
pub record IsFile (word bytes footer : List ℕ) (offset : ℕ) : Type 0 where
  pub body : List ℕ
  pub count : List ℕ
  pub parts : bytes ≡ word ++ (body ++ (footer ++ (count ++ word)))
  pub counted : uint32.Shows (length footer) count
  pub offset_is : offset ≡ length word + length body

-- Bytes are no file with this word, whatever its footer.
abbrev pub HasNoFooter : List ℕ → List ℕ → Type 0
HasNoFooter word bytes = (footer : List ℕ) (offset : ℕ) → IsFile word bytes footer offset → ⊥

-- Where the old bytes are the word and a body, the new ones are a file with this footer after them.
abbrev pub EndsFile : List ℕ → List ℕ → List ℕ → List ℕ → Type 0
EndsFile word old footer new =
    (body : List ℕ) → old ≡ word ++ body → IsFile word new footer (length old)

-- A file whose footer shows a value.
pub record IsFramed {A : Type 0} (word : List ℕ) (f : Form A) (bytes : List ℕ) (x : A)
    (offset : ℕ) : Type 0 where
  pub footer : List ℕ
  pub file : IsFile word bytes footer offset
  pub shown : f.Shows x footer

-- A footer that was read, or its bytes, and the offset at which it begins.
pub record Framed (A : Type 0) : Type 0 where
  pub value : A
  pub offset : ℕ

-- A footer at an offset.
abbrev pub framed_at : {A : Type 0} → ℕ → Option A → Option (Framed A)
framed_at offset None = None
framed_at offset (Some x) = Some (record { value = x; offset = offset })

-- The length of the footer, by the four bytes before the last word.
abbrev pub footer_len : List ℕ → ℕ
footer_len bytes = from_le_bytes w32 (slice_range bytes (length bytes - 8) (length bytes - 4))

-- The last n bytes before the footer's length, if there is room for them between the two words.
abbrev pub footer_bytes : List ℕ → ℕ → Option (Framed (List ℕ))
footer_bytes bytes n =
    if nat_lt (length bytes - 12) n then None
    else Some (record {
      value = slice_range bytes (length bytes - 8 - n) (length bytes - 8);
      offset = length bytes - 8 - n;
    })

-- A file begins and ends with a word of four bytes.
abbrev pub has_ends : List ℕ → List ℕ → Bool
has_ends word bytes = bytes_eq (take 4 bytes) word && bytes_eq (drop (length bytes - 4) bytes) word

-- The bytes of a file's footer: none where the file has under twelve bytes, an end is not the word,
-- or the footer has no room.
abbrev pub cut_frame : List ℕ → List ℕ → Option (Framed (List ℕ))
cut_frame word bytes =
    if nat_lt (length bytes) 12 then None
    else (if has_ends word bytes then footer_bytes bytes (footer_len bytes) else None)

-- What the bytes of a footer show, all of them.
abbrev pub framed_as : {A : Type 0} → Form A → Option (Framed (List ℕ)) → Option (Framed A)
framed_as f None = None
framed_as f (Some x) = framed_at x.offset (read_all f x.value)

-- The footer of a file, and its offset.
abbrev pub read_framed : {A : Type 0} → List ℕ → Form A → List ℕ → Option (Framed A)
read_framed word f bytes = framed_as f (cut_frame word bytes)

-- The end of a file after its body: a footer, its length, and the word.
abbrev pub frame_end : List ℕ → List ℕ → List ℕ
frame_end word footer = footer ++ (uint32.write (length footer) ++ word)

-- A file of this body and this footer.
abbrev pub framed_bytes : {A : Type 0} → List ℕ → Form A → List ℕ → A → List ℕ
framed_bytes word f body x = word ++ (body ++ frame_end word (f.write x))

-- A footer fits, and so does its length in four bytes.
pub record FitsFrame {A : Type 0} (f : Form A) (x : A) : Type 0 where
  pub fits : f.Fits x
  pub len : length (f.write x) < 2 ^ 32
