-- The header that operands name.
use Rattle.std.proofs.Common.{◌≡◌, ℕ, List, Some, sym, ap, ◌∙◌, subst}
use Rattle.mac_io.specs.declared.headers.Form.{Form}
use Rattle.pp_tokens.specs.declared.token.Token.{Token}
use Rattle.macro_expand.specs.declared.here.Here.{Here}
use Rattle.macro_expand.specs.Macros.{Macros}
use Rattle.pp_unit.specs.HeaderNames.{header_text, form_of, between, named, NamesHeader, Stands}

pub header_stands : (macros : Macros) (here : Here) (tokens shown : List Token) (text inner : List ℕ) (form : Form) →
    shown ≡ tokens → Some text ≡ header_text shown → form ≡ form_of text → inner ≡ between text → NamesHeader macros here tokens (named form inner)
header_stands macros here tokens shown text inner form same is is_form is_inner =
    subst (λ (f : Form). NamesHeader macros here tokens (named f inner)) (sym is_form)
    (subst (λ (i : List ℕ). NamesHeader macros here tokens (named (form_of text) i)) (sym is_inner) (Stands (sym (is ∙ ap header_text same))))
