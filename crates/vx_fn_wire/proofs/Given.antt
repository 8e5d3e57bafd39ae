-- At most one function is given of metadata, and where one is, no cause of a refusal holds.
use Rattle.std.proofs.Common.{◌≡◌, Bool, true, false, ℕ, List, Option, Some, None, ap, sym, ◌∙◌}
use Rattle.vx_fn_wire.specs.Session.{IsGiven, RefusesGiving}
use Rattle.vx_fn_wire.specs.declared.error.FnWireError.{FnWireError}
use Rattle.vx_fn_wire.specs.declared.error.FnWireError.TheVariants.{UnknownId, PluginRefused}

module _ {F : Type 0} where
  pub given_same : (reader : Option (List ℕ → Option F)) (unknown : Bool) (metadata : List ℕ) (foreign f g : F) → IsGiven reader unknown metadata foreign f → IsGiven reader unknown metadata foreign g → f ≡ g
  given_same (Some gives) unknown metadata foreign f g h k = let e : Some f ≡ Some g = sym h ∙ k in cc
  given_same None unknown metadata foreign f g h k = h.1 ∙ sym k.1

  pub given_excludes : (e : FnWireError) (reader : Option (List ℕ → Option F)) (unknown : Bool) (metadata : List ℕ) (foreign f : F) → IsGiven reader unknown metadata foreign f → RefusesGiving e reader unknown metadata → ⊥
  given_excludes UnknownId (Some gives) unknown metadata foreign f h k = absurd (let e : Some gives ≡ None = k.0 in cc)
  given_excludes UnknownId None unknown metadata foreign f h k = absurd (let e : true ≡ false = sym h.0 ∙ k.1 in cc)
  given_excludes PluginRefused (Some gives) unknown metadata foreign f h k =
      let same : gives ≡ k.0 = (let e : Some gives ≡ Some k.0 = k.1 in cc) in
      absurd (let e : None ≡ Some f = sym k.2 ∙ ap (λ (r : List ℕ → Option F). r metadata) (sym same) ∙ h in cc)
  given_excludes PluginRefused None unknown metadata foreign f h k = absurd (let e : None ≡ Some k.0 = k.1 in cc)
  given_excludes e reader unknown metadata foreign f h k = absurd k
