-- What was found of a file is its footer, and where nothing was found there is none.
use Rattle.std.proofs.Common.{ℕ, ◌≡◌, List, Option, Some, None, length, sym, ◌∙◌}
use Rattle.std.specs.Prelude.{IfSome, IfNone, option_map}
use Rattle.vx_forms.specs.Frame.{IsFile, HasNoFooter, Framed, cut_frame}
use Rattle.vx_forms.specs.FrameSeen.{frame_seen}
use Rattle.vx_forms.specs.declared.frame.FrameParts.{FrameParts}
use Rattle.vx_forms.proofs.LawsOfFrames.{cut_back, cut_only}

none_is_not_some : (x : Framed (List ℕ)) → ◌≡◌ {A = Option (Framed (List ℕ))} None (Some x) → ⊥
none_is_not_some x e = cc

module _ (word bytes : List ℕ) (four : length word ≡ 4) where
  pub file_found : (o : Option FrameParts) → option_map frame_seen o ≡ cut_frame word bytes
      → IfSome o (λ x. IsFile word bytes x.footer.now x.offset)
  file_found None e = tt
  file_found (Some x) e = cut_only word four bytes (frame_seen x) (sym e)

  pub no_file : (o : Option FrameParts) → option_map frame_seen o ≡ cut_frame word bytes
      → IfNone o (HasNoFooter word bytes)
  no_file None e = λ footer offset file. none_is_not_some (record { value = footer; offset = offset })
      (e ∙ cut_back word four bytes footer offset file)
  no_file (Some x) e = tt
