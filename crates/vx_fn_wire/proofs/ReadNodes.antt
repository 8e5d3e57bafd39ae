-- What stands at the node of a message, or why nothing does.
use Rattle.std.proofs.Common.{◌≡◌, ◌⊎◌, inl, inr, ℕ, Bool, true, false, List, length, bytes_eq, refl, sym, subst, ◌∙◌}
use Rattle.std.proofs.lemmas.Slice.Eq.{bytes_eq-Decides}
use Rattle.vx_trees.specs.Rose.{node, roses_of, count}
use Rattle.vx_trees.proofs.Lists.{count-roses_of}
use Rattle.vx_fn_wire.specs.Arity.{Admits}
use Rattle.vx_fn_wire.specs.Expr.{call, Expr}
use Rattle.vx_fn_wire.specs.Messages.{root_id}
use Rattle.vx_fn_wire.specs.ReadsExpr.{IsFunctionOf, IsNodeOf, RefusesCall}
use Rattle.vx_fn_wire.specs.Session.{Registry, RefusesGiving}
use Rattle.vx_fn_wire.specs.declared.scalar_fn.ScalarFn.{ScalarFn}
use Rattle.vx_fn_wire.specs.declared.error.FnWireError.{FnWireError}
use Rattle.vx_fn_wire.specs.declared.error.FnWireError.TheVariants.{OutOfMemory, UnknownId, ArityMismatch, PluginRefused}

pub not_root : (id : List ℕ) → false ≡ bytes_eq id root_id → id ≡ root_id → ⊥
not_root id e same = let t : bytes_eq id root_id ≡ true = (bytes_eq-Decides id root_id).1 same in absurd cc

module _ (registry : Registry ScalarFn) (unknown : Bool) where
  no_scalar : (e : FnWireError) (id metadata : List ℕ) (n : ℕ) → (id ≡ root_id → ⊥) → RefusesGiving e (registry id) unknown metadata → RefusesCall registry unknown e id metadata n
  no_scalar UnknownId id metadata n other h = (other, h)
  no_scalar PluginRefused id metadata n other h = (other, h)
  no_scalar e id metadata n other h = absurd h

  -- No function is given of an identifier that is not the root's.
  pub no_function : (e : FnWireError) (id there metadata : List ℕ) (n : ℕ) → there ≡ id → false ≡ bytes_eq id root_id → (e ≡ OutOfMemory) ⊎ RefusesGiving e (registry there) unknown metadata → (e ≡ OutOfMemory) ⊎ RefusesCall registry unknown e id metadata n
  no_function e id there metadata n same other (inl h) = inl h
  no_function e id there metadata n same other (inr h) = inr (no_scalar e id metadata n (not_root id other) (subst (λ (i : List ℕ). RefusesGiving e (registry i) unknown metadata) same h))

  given_at : (id there metadata : List ℕ) (n m : ℕ) (f : ScalarFn) → there ≡ id → m ≡ n → IsFunctionOf registry unknown there metadata m f → IsFunctionOf registry unknown id metadata n f
  given_at id there metadata n m f same number h =
      subst (λ (k : ℕ). IsFunctionOf registry unknown id metadata k f) number (subst (λ (i : List ℕ). IsFunctionOf registry unknown i metadata m f) same h)

  -- The arity of the function that is given does not admit that many children.
  pub not_admitted : (id there metadata : List ℕ) (n m : ℕ) (f : ScalarFn) → there ≡ id → false ≡ bytes_eq id root_id → m ≡ n → IsFunctionOf registry unknown there metadata m f → (Admits f.arity n → ⊥)
      → RefusesCall registry unknown ArityMismatch id metadata n
  not_admitted id there metadata n m f same other number h not = (not_root id other, f, given_at id there metadata n m f same number h, not)

  -- A call of the function that is given.
  pub call_node : (id there metadata : List ℕ) (children : List Expr) (m : ℕ) (f : ScalarFn) (e : Expr) → there ≡ id → false ≡ bytes_eq id root_id → m ≡ length children → IsFunctionOf registry unknown there metadata m f
      → e ≡ node (call f) (roses_of children) → IsNodeOf registry unknown id metadata (roses_of children) e
  call_node id there metadata children m f e same other number h is =
      subst (IsNodeOf registry unknown id metadata (roses_of children)) (sym is)
      (refl, (not_root id other, given_at id there metadata (count (roses_of children)) m f same (number ∙ sym (count-roses_of children)) h))
