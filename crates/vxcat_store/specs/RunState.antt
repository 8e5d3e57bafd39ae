-- What contracts see of a run: the store and the sink, before and after it.
use Rattle.std.specs.Prelude.{◌≡◌, List, ℕ}
use Rattle.std.specs.Io.KnownBytes.{Appends, Keeps}
use Rattle.vxcat_store.specs.StoreState.{StoreState, HasRisen}
use Rattle.vxcat_store.specs.SinkState.{SinkState}
use Rattle.vxcat_store.specs.Written.{AppendsPrefix}

-- A store and a sink before a run, and both after it.
pub record Run : Type 0 where
  pub before : StoreState
  pub after : StoreState
  pub out_before : SinkState
  pub out_after : SinkState

-- A run by its four states.
abbrev pub run_of : StoreState → StoreState → SinkState → SinkState → Run
run_of before after out_before out_after = record { before = before; after = after; out_before = out_before; out_after = out_after }

-- Nothing was saved and nothing printed.
pub record IsUntouched (run : Run) : Type 0 where
  pub told : run.after.tells ≡ run.before.tells
  pub files : run.after.file ≡ run.before.file
  pub unprinted : Keeps run.out_before.written run.out_after.written

-- The text was printed, whole.
abbrev pub Prints : Run → List ℕ → Type 0
Prints run text = Appends run.out_before.written run.out_after.written text

-- Some prefix of the text was printed, possibly none of it or all.
abbrev pub PrintsPrefix : Run → List ℕ → Type 0
PrintsPrefix run text = AppendsPrefix run.out_before.written run.out_after.written text

-- No count of faults rose.
pub record HasNoFault (run : Run) : Type 0 where
  pub loads : HasRisen run.before.load_faults run.after.load_faults → ⊥
  pub saves : HasRisen run.before.save_faults run.after.save_faults → ⊥
  pub writes : HasRisen run.out_before.faults run.out_after.faults → ⊥
