-- Long views: the bytes of the buffer that a view names.
use Rattle.std.proofs.Common.{ℕ, ◌≡◌, ◌≤◌, ◌<◌, List, Option, Some, None, length, take, drop, get_or, slice_get, refl, sym, subst, ◌∙◌}
use Rattle.std.proofs.lemmas.Option.{slice_get_past, slice_get_read}
use Rattle.std.specs.Int.{w32, from_le_bytes}
use Rattle.vx_buffer.specs.Buffer.{Buffer}
use Rattle.vx_array_tree.specs.Encodings.VarBinViews.{found, long_view}

-- A long view tells bytes of the buffer that it names, where that is there.
module _ (buffers : List Buffer) (size : ℕ) (view : List ℕ) (which : ℕ) (w : which ≡ from_le_bytes w32 (take 4 (drop 8 view))) where
  told : (o : Option Buffer) (r : Option (List ℕ)) → slice_get buffers which ≡ o
      → r ≡ elim o [ None ↦ None | Some b ↦ found size (take 4 (drop 4 view)) (from_le_bytes w32 (take 4 (drop 12 view))) b.bytes ] → r ≡ long_view buffers size view
  told o r e h =
      subst
      (λ (k : ℕ). r ≡ elim (slice_get buffers k) [ None ↦ None | Some b ↦ found size (take 4 (drop 4 view)) (from_le_bytes w32 (take 4 (drop 12 view))) b.bytes ])
      w
      (subst (λ (x : Option Buffer). r ≡ elim x [ None ↦ None | Some b ↦ found size (take 4 (drop 4 view)) (from_le_bytes w32 (take 4 (drop 12 view))) b.bytes ]) (sym e) h)

  pub long_none : length buffers ≤ which → None ≡ long_view buffers size view
  long_none h = told None None (slice_get_past buffers which h) refl

  pub long_some : (offset : ℕ) (b : Buffer) (bytes : List ℕ) (r : Option (List ℕ)) → offset ≡ from_le_bytes w32 (take 4 (drop 12 view)) → which < length buffers → b ≡ get_or buffers which b → bytes ≡ b.bytes
      → r ≡ found size (take 4 (drop 4 view)) offset bytes → r ≡ long_view buffers size view
  long_some offset b bytes r o l g e q =
      told (Some b) r (slice_get_read buffers (length buffers) which b refl l g) (q ∙ (λ i. found size (take 4 (drop 4 view)) (o i) (e i)))
