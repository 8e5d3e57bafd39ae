-- The session that the program makes.
use Rattle.std.proofs.Common.{◌≡◌, ℕ, Bool, true, false, List, Global, refl, sym, ap, ◌∙◌}
use Rattle.std.specs.declared.dyn_box.DynBox.{DynBox}
use Rattle.vx_types.specs.Known.{ExtMeaning}
use Rattle.vx_types.specs.Typ.{Typ}
use Rattle.vx_type_wire.specs.Session.{ext_meaning}
use Rattle.vx_type_wire.specs.declared.readers.ExtSession.{ExtSession}
use Rattle.vx_wire_tree.specs.Plugin.{PluginMeaning}
use Rattle.vx_wire_tree.specs.Session.{SessionMeaning, IsShipped}
use Rattle.vx_registry.specs.declared.array_session.ArraySession.{ArraySession}
use Rattle.vx_registry.specs.declared.session.VortexSession.{VortexSession}
use Rattle.vx_registry.specs.Meaning.{arrays_meaning, session_meaning}
use Rattle.vx_registry.proofs.LawsSessions.{shipped_alone, revised_alone}
use Rattle.vxcat_blobs.specs.Recode.{readers_by, session_by, shipped_by}

-- Readers of extensions mean what those mean that they are made of.
pub readers_asked : {X : Type 0} {F : X → Type 0} (accepted : DynBox X Global F → List ℕ → Typ → Bool) (held made : ExtSession X F) (x : ExtMeaning)
    → held ≡ made → ext_meaning accepted made ≡ x → ext_meaning accepted held ≡ x
readers_asked accepted held made x same is = ap (λ z. ext_meaning accepted z) same ∙ is

-- The session that the program makes means the shipped encodings, and no readers.
pub same_session : {Y : Type 0} {G : Y → Type 0} {X : Type 0} {F : X → Type 0} (means : DynBox Y Global G → PluginMeaning) (accepted : DynBox X Global F → List ℕ → Typ → Bool)
    (session : VortexSession Y X G F) (arrays : ArraySession Y G) (ext : ExtSession X F) (revised unknown : Bool)
    → session.arrays ≡ arrays → session.ext ≡ ext → ((x : ExtMeaning) → arrays_meaning means arrays x ≡ shipped_by revised x) → ext_meaning accepted ext ≡ readers_by unknown
    → session_meaning means accepted session ≡ session_by revised unknown
same_session means accepted session arrays ext revised unknown a e shipped none =
    ap (λ z. arrays_meaning means z (ext_meaning accepted session.ext)) a ∙ (shipped (ext_meaning accepted session.ext) ∙ ap (λ (x : ExtMeaning). shipped_by revised x) (readers_asked accepted session.ext ext (readers_by unknown) e none))

-- Once what is unknown is allowed, there are no readers of extensions, and their flag is set.
unknown_allowed : (x y : ExtMeaning) (unknown : Bool) → x ≡ readers_by false → ((id : List ℕ) → y.reader id ≡ x.reader id) → y.unknown ≡ true → unknown ≡ true → y ≡ readers_by unknown
unknown_allowed x y unknown before readers allowed is = λ k. record { reader = λ id. (readers id ∙ ap (λ (m : ExtMeaning). m.reader id) before) k; unknown = (allowed ∙ sym is) k }

-- And the session means the shipped encodings beside these.
pub allowing_session : {Y : Type 0} {G : Y → Type 0} {X : Type 0} {F : X → Type 0} (means : DynBox Y Global G → PluginMeaning) (accepted : DynBox X Global F → List ℕ → Typ → Bool)
    (session : VortexSession Y X G F) (after : ExtSession X F) (revised unknown : Bool)
    → ((x : ExtMeaning) → arrays_meaning means session.arrays x ≡ shipped_by revised x) → ext_meaning accepted session.ext ≡ readers_by false
    → ((id : List ℕ) → (ext_meaning accepted after).reader id ≡ (ext_meaning accepted session.ext).reader id) → (ext_meaning accepted after).unknown ≡ true → unknown ≡ true
    → arrays_meaning means session.arrays (ext_meaning accepted after) ≡ session_by revised unknown
allowing_session means accepted session after revised unknown shipped before readers allowed is =
    shipped (ext_meaning accepted after) ∙ ap (λ (x : ExtMeaning). shipped_by revised x) (unknown_allowed (ext_meaning accepted session.ext) (ext_meaning accepted after) unknown before readers allowed is)

-- The readers of extensions are those that it was asked for with.
shipped_beside : (revised : Bool) (x : ExtMeaning) → (shipped_by revised x).ext ≡ x
shipped_beside false x = refl
shipped_beside true x = refl

pub asked_readers : (s : SessionMeaning) (revised unknown : Bool) → s ≡ session_by revised unknown → s.ext ≡ readers_by unknown
asked_readers s revised unknown is = ap (λ (m : SessionMeaning). m.ext) is ∙ shipped_beside revised (readers_by unknown)

-- It reads and writes by shipped encodings alone.
pub shipped_session : (revised : Bool) (x : ExtMeaning) → IsShipped (shipped_by revised x)
shipped_session false x = shipped_alone x
shipped_session true x = revised_alone x

-- A session that was made with two identifiers of primitives, or with one, holds what the flag asks for.
pub arrays_asked : {Y : Type 0} {G : Y → Type 0} (means : DynBox Y Global G → PluginMeaning) (held made : ArraySession Y G) (asked revised : Bool)
    → held ≡ made → asked ≡ revised → ((x : ExtMeaning) → arrays_meaning means made x ≡ shipped_by revised x) → (x : ExtMeaning) → arrays_meaning means held x ≡ shipped_by asked x
arrays_asked means held made asked revised same is shipped x = ap (λ z. arrays_meaning means z x) same ∙ (shipped x ∙ ap (λ (t : Bool). shipped_by t x) (sym is))
