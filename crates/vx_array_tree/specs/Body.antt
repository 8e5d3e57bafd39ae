-- What a node holds beside its type, its rows and its children.
use Rattle.std.specs.Prelude.{◌≡◌, ◌⊎◌, refl}
use Rattle.std.specs.Coded.{Coded, code_by, coded⊎}
use mathlib.Core.Logic.{inl, inr}
use base.Stored.{coded_unit}
use Rattle.vx_array_tree.specs.Encodings.Bools as Bools
use Rattle.vx_array_tree.specs.Encodings.Primitives as Primitives
use Rattle.vx_array_tree.specs.Encodings.Decimals as Decimals
use Rattle.vx_array_tree.specs.Encodings.VarBins as VarBins
use Rattle.vx_array_tree.specs.Encodings.VarBinViews as VarBinViews
use Rattle.vx_array_tree.specs.Encodings.ListViews as ListViews
use Rattle.vx_array_tree.specs.Encodings.Dicts as Dicts
use Rattle.vx_array_tree.specs.Encodings.Foreigns as Foreigns

-- A case for each encoding, with what its nodes hold, and one for foreign nodes.
pub data Body : Type 0 where
  null : Body
  bool : Bools.Data → Body
  primitive : Primitives.Data → Body
  decimal : Decimals.Data → Body
  varbin : VarBins.Data → Body
  varbinview : VarBinViews.Data → Body
  list : Body
  listview : ListViews.Data → Body
  fixed_size_list : Body
  map : Body
  struct : Body
  union : Body
  variant : Body
  ext : Body
  dict : Dicts.Data → Body
  foreign : Foreigns.Data → Body

-- How a body is stored: its case, and what the case holds.
abbrev Stored : Type 0
Stored =
    Unit {0} ⊎ (Bools.Data ⊎ (Primitives.Data ⊎ (Decimals.Data ⊎ (VarBins.Data ⊎ (VarBinViews.Data ⊎ (Unit {0} ⊎ (ListViews.Data
    ⊎ (Unit {0} ⊎ (Unit {0} ⊎ (Unit {0} ⊎ (Unit {0} ⊎ (Unit {0} ⊎ (Unit {0} ⊎ (Dicts.Data ⊎ Foreigns.Data))))))))))))))

abbrev stored : Body → Stored
stored null = inl tt
stored (bool x) = inr (inl x)
stored (primitive x) = inr (inr (inl x))
stored (decimal x) = inr (inr (inr (inl x)))
stored (varbin x) = inr (inr (inr (inr (inl x))))
stored (varbinview x) = inr (inr (inr (inr (inr (inl x)))))
stored list = inr (inr (inr (inr (inr (inr (inl tt))))))
stored (listview x) = inr (inr (inr (inr (inr (inr (inr (inl x)))))))
stored fixed_size_list = inr (inr (inr (inr (inr (inr (inr (inr (inl tt))))))))
stored map = inr (inr (inr (inr (inr (inr (inr (inr (inr (inl tt)))))))))
stored struct = inr (inr (inr (inr (inr (inr (inr (inr (inr (inr (inl tt))))))))))
stored union = inr (inr (inr (inr (inr (inr (inr (inr (inr (inr (inr (inl tt)))))))))))
stored variant = inr (inr (inr (inr (inr (inr (inr (inr (inr (inr (inr (inr (inl tt))))))))))))
stored ext = inr (inr (inr (inr (inr (inr (inr (inr (inr (inr (inr (inr (inr (inl tt)))))))))))))
stored (dict x) = inr (inr (inr (inr (inr (inr (inr (inr (inr (inr (inr (inr (inr (inr (inl x))))))))))))))
stored (foreign x) = inr (inr (inr (inr (inr (inr (inr (inr (inr (inr (inr (inr (inr (inr (inr x))))))))))))))

abbrev restored : Stored → Body
restored (inl _) = null
restored (inr (inl x)) = bool x
restored (inr (inr (inl x))) = primitive x
restored (inr (inr (inr (inl x)))) = decimal x
restored (inr (inr (inr (inr (inl x))))) = varbin x
restored (inr (inr (inr (inr (inr (inl x)))))) = varbinview x
restored (inr (inr (inr (inr (inr (inr (inl _))))))) = list
restored (inr (inr (inr (inr (inr (inr (inr (inl x)))))))) = listview x
restored (inr (inr (inr (inr (inr (inr (inr (inr (inl _))))))))) = fixed_size_list
restored (inr (inr (inr (inr (inr (inr (inr (inr (inr (inl _)))))))))) = map
restored (inr (inr (inr (inr (inr (inr (inr (inr (inr (inr (inl _))))))))))) = struct
restored (inr (inr (inr (inr (inr (inr (inr (inr (inr (inr (inr (inl _)))))))))))) = union
restored (inr (inr (inr (inr (inr (inr (inr (inr (inr (inr (inr (inr (inl _))))))))))))) = variant
restored (inr (inr (inr (inr (inr (inr (inr (inr (inr (inr (inr (inr (inr (inl _)))))))))))))) = ext
restored (inr (inr (inr (inr (inr (inr (inr (inr (inr (inr (inr (inr (inr (inr (inl x))))))))))))))) = dict x
restored (inr (inr (inr (inr (inr (inr (inr (inr (inr (inr (inr (inr (inr (inr (inr x))))))))))))))) = foreign x

-- What is stored gives back the body.
pub restored-stored : (b : Body) → restored (stored b) ≡ b
restored-stored null = refl
restored-stored (bool x) = refl
restored-stored (primitive x) = refl
restored-stored (decimal x) = refl
restored-stored (varbin x) = refl
restored-stored (varbinview x) = refl
restored-stored list = refl
restored-stored (listview x) = refl
restored-stored fixed_size_list = refl
restored-stored map = refl
restored-stored struct = refl
restored-stored union = refl
restored-stored variant = refl
restored-stored ext = refl
restored-stored (dict x) = refl
restored-stored (foreign x) = refl

-- The code by which bodies are told apart.
abbrev pub body_code : Coded Body
body_code =
    code_by Stored (coded⊎ coded_unit (coded⊎ Bools.data_code (coded⊎ Primitives.data_code (coded⊎ Decimals.data_code (coded⊎ VarBins.data_code
    (coded⊎ VarBinViews.data_code (coded⊎ coded_unit (coded⊎ ListViews.data_code (coded⊎ coded_unit (coded⊎ coded_unit (coded⊎ coded_unit
    (coded⊎ coded_unit (coded⊎ coded_unit (coded⊎ coded_unit (coded⊎ Dicts.data_code Foreigns.data_code)))))))))))))))
    stored restored restored-stored
