-- Searches, worked out.
use Rattle.std.proofs.Common.{◌≡◌, [], ◌∷◌, refl}
use Rattle.mac_io.specs.Search.{candidates, folder_of, path_text}
use Rattle.mac_io.specs.declared.headers.Form.TheVariants.{Quote, Angle}

-- the folder of `d/u.c`, and of `u.c`
folder : folder_of (100 ∷ 47 ∷ 117 ∷ 46 ∷ 99 ∷ []) ≡ 100 ∷ 47 ∷ []
folder = refl

no_folder : folder_of (117 ∷ 46 ∷ 99 ∷ []) ≡ []
no_folder = refl

-- `"q.h"` in `d/u.c` of the first of three stores
quoted : candidates 3 (record { store = 0; name = 100 ∷ 47 ∷ 117 ∷ [] }) Quote (113 ∷ []) ≡ record { store = 0; name = 100 ∷ 47 ∷ 113 ∷ [] } ∷ record { store = 1; name = 113 ∷ [] } ∷ record { store = 2; name = 113 ∷ [] } ∷ []
quoted = refl

-- `<q>` there
angled : candidates 3 (record { store = 0; name = 100 ∷ 47 ∷ 117 ∷ [] }) Angle (113 ∷ []) ≡ record { store = 1; name = 113 ∷ [] } ∷ record { store = 2; name = 113 ∷ [] } ∷ []
angled = refl

-- `"/q"` in a file of the third store
absolute : candidates 3 (record { store = 2; name = 117 ∷ [] }) Quote (47 ∷ 113 ∷ []) ≡ record { store = 0; name = 47 ∷ 113 ∷ [] } ∷ []
absolute = refl

-- `q` in a store with the label `i`, and in one without
labelled : path_text (105 ∷ []) (113 ∷ []) ≡ 105 ∷ 47 ∷ 113 ∷ []
labelled = refl

plain : path_text [] (113 ∷ []) ≡ 113 ∷ []
plain = refl
