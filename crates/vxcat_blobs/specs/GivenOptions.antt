-- Options that are given one after the other.
use Rattle.std.specs.Prelude.{◌≡◌, ℕ, Bool, true, false, List, [], ◌∷◌, Option, Some, None, option_map, unwrap_or}
use Rattle.std.specs.List.{AllByRecursion, flat_map}
use Rattle.vxcat_blobs.specs.declared.options.Choice.{Choice}
use Rattle.vxcat_blobs.specs.declared.options.Choice.TheVariants.{Pad, Rows, Allow, Unknown, Deep, Revised}
use Rattle.vxcat_blobs.specs.declared.options.Options.{Options}
use Rattle.vxcat_blobs.specs.Options.{IsInRange, Setting, Settings, setting_words}
use Rattle.vxcat_blobs.specs.Options as options

-- The option that a choice is.
abbrev pub setting_of : Choice → Setting
setting_of (Pad n) = options.pad n
setting_of (Rows n) = options.rows n
setting_of (Allow name) = options.allow name.now
setting_of Unknown = options.unknown
setting_of Deep = options.deep
setting_of Revised = options.revised

-- The options that were given, at most one of a kind.
pub record Given : Type 0 where
  pub pad : Option ℕ
  pub rows : Option ℕ
  pub allow : Option (List ℕ)
  pub unknown : Bool
  pub deep : Bool
  pub revised : Bool

-- The options that are held.
abbrev pub given_in : Options → Given
given_in o = record { pad = o.pad; rows = o.rows; allow = option_map (λ name. name.now) o.allow; unknown = o.unknown; deep = o.deep; revised = o.revised }

-- The settings of the options that were given.
abbrev pub settings_by : Given → Settings
settings_by given = record { pad = given.pad; rows = unwrap_or given.rows 10; allow = given.allow; unknown = given.unknown; deep = given.deep; revised = given.revised }

-- No option was given.
abbrev pub none_given : Given
none_given = record { pad = None; rows = None; allow = None; unknown = false; deep = false; revised = false }

-- What an option of one kind gives where none of its kind was given before; none where one was.
abbrev pub given_once : {A : Type 0} → Option A → A → Option (Option A)
given_once None a = Some (Some a)
given_once (Some b) a = None

-- What an option without a value gives, where it was not given before; none where it was.
abbrev pub set_once : Bool → Option Bool
set_once false = Some true
set_once true = None

-- Options with one more: none where one of its kind was given before.
abbrev pub with_setting : Given → Setting → Option Given
with_setting given (options.pad n) = option_map (λ p. record given { pad = p }) (given_once given.pad n)
with_setting given (options.rows n) = option_map (λ r. record given { rows = r }) (given_once given.rows n)
with_setting given (options.allow name) = option_map (λ a. record given { allow = a }) (given_once given.allow name)
with_setting given options.unknown = option_map (λ u. record given { unknown = u }) (set_once given.unknown)
with_setting given options.deep = option_map (λ d. record given { deep = d }) (set_once given.deep)
with_setting given options.revised = option_map (λ v. record given { revised = v }) (set_once given.revised)

-- Options with more, one after the other: none where two are of one kind.
abbrev pub with_settings : Option Given → List Setting → Option Given
with_settings given [] = given
with_settings None (setting ∷ more) = with_settings None more
with_settings (Some given) (setting ∷ more) = with_settings (with_setting given setting) more

-- The words are options that, added to those before, give these.
pub record Gives (before : Given) (words : List (List ℕ)) (after : Given) : Type 0 where
  pub settings : List Setting
  pub words_are : words ≡ flat_map setting_words settings
  pub in_range : AllByRecursion IsInRange settings
  pub once : with_settings (Some before) settings ≡ Some after
