-- The meanings of the tests' plugins, with their laws.
use Rattle.std.specs.Prelude.{ℕ, List, [], ◌∷◌, true, bytes_eq, refl}
use Rattle.vx_array_tree.specs.Encodings.Primitives as Primitives
use Rattle.vx_wire_tree.specs.Plugin.{PluginMeaning, refused}
use Rattle.vx_plugin_tests.specs.Asking.{asking_plan}
use Rattle.vx_plugin_tests.specs.Odd.{odd_answer, odd_plan, odd_build}
use Rattle.vx_plugin_tests.specs.Versioned as Versions
use Rattle.vx_plugin_tests.specs.declared.odd.Oddity.{Oddity}
use Rattle.vx_plugin_tests.specs.AskingLaws as AskingLaws
use Rattle.vx_plugin_tests.specs.OddLaws as OddLaws
use Rattle.vx_plugin_tests.specs.VersionedLaws as VersionedLaws

-- The plugin of an encoding's identifier that does this with arrays; it has another identifier, which it does not
-- declare.
abbrev pub odd : Oddity → List ℕ → List ℕ → PluginMeaning
odd o id other = record {
  id = id;
  declared = id ∷ [];
  supported = λ z. true;
  serialize = odd_answer o id other;
  plan = λ h x. odd_plan h;
  build = λ h bs ts x. odd_build ts;
  one_each = λ h x ps e. OddLaws.one_each h ps e;
  as_asked = λ h bs ts x t p k b. let a = OddLaws.as_asked h ts t p b in (a.0, a.1, refl);
  plans_again = λ t y x a b k e. OddLaws.plans_again o id other t y e;
  builds_again = λ t y x a b k e. OddLaws.builds_again o id other t y e;
}

-- The plugin that reads nodes of this identifier, and writes nothing.
abbrev pub asking : List ℕ → PluginMeaning
asking id = record {
  id = id;
  declared = id ∷ [];
  supported = λ z. true;
  serialize = λ t. refused;
  plan = asking_plan;
  build = λ h bs ts x. odd_build ts;
  one_each = AskingLaws.one_each;
  as_asked = λ h bs ts x t p k b. let a = AskingLaws.as_asked h x ts t p b in (a.0, a.1, refl);
  plans_again = λ t y x a b k e. absurd (AskingLaws.never_given y e);
  builds_again = λ t y x a b k e. absurd (AskingLaws.never_given y e);
}

-- The plugin of numbers that has one of these identifiers for few of them and one for any number.
abbrev pub versioned : List ℕ → List ℕ → PluginMeaning
versioned old new = record {
  id = old;
  declared = old ∷ new ∷ [];
  supported = bytes_eq Primitives.id;
  serialize = Versions.answer old new;
  plan = λ h x. Versions.plan old new h;
  build = λ h bs ts x. Versions.build old new h bs;
  one_each = λ h x ps e. VersionedLaws.one_each old new h ps e;
  as_asked = λ h bs ts x t p k b. VersionedLaws.as_asked old new h bs t b;
  plans_again = λ t y x a b k e. VersionedLaws.plans_again old new t y e;
  builds_again = λ t y x a b k e. VersionedLaws.builds_again old new t y a e;
}
