-- Lemmas on the symbols of tokens.
use Rattle.std.proofs.Common.{Bool, true, false, if◌then◌else◌, ◌++◌, Option, Some, None, refl, ap, ◌∙◌, ◌≡◌, ℕ, List, [], ◌∷◌, append_assoc, Result, Ok, Err, sym, subst}
use Rattle.std.specs.List.{list_any}
use Rattle.mac_base.specs.Input.{◌>>=◌}
use Rattle.pp_tokens.specs.declared.token.Token.{Token}
use Rattle.pp_tokens.specs.declared.token.Kind.{Kind}
use Rattle.pp_tokens.specs.declared.token.Kind.TheVariants.{Identifier, Number as NumberKind, Char, Str, Punct, Header, LoneQuote, Other as OtherKind}
use Rattle.pp_directives.specs.declared.fault.ExprFault.{ExprFault}
use Rattle.pp_directives.specs.declared.fault.ExprFault.TheVariants.{BadNumber, BadChar, DefinedFromMacro}
use Rattle.pp_directives.specs.declared.expression.number.Number.{Number}
use Rattle.pp_directives.specs.declared.expression.symbol.Symbol.{Symbol}
use Rattle.pp_directives.specs.Constants.{number_of, character_of}
use Rattle.pp_directives.specs.Values.{constant_or, symbol_by, symbol_of, symbols_of, is_defined, condition_symbols}
use Rattle.pp_directives.specs.ValueLaws.{is_token_fault}

-- the symbols with those before them
abbrev pub after : List Symbol → Result (List Symbol) ExprFault → Result (List Symbol) ExprFault
after front rest = rest >>= λ list. Ok (front ++ list)

-- one symbol more is before the rest
with_one : (front : List Symbol) (s : Symbol) (rest : Result (List Symbol) ExprFault) → after (front ++ s ∷ []) rest ≡ after front (rest >>= λ list. Ok (s ∷ list))
with_one front s (Ok list) = ap Ok (append_assoc front (s ∷ []) list)
with_one front s (Err fault) = refl

taken : (front : List Symbol) (o : Result Symbol ExprFault) (s : Symbol) (rest : Result (List Symbol) ExprFault) → o ≡ Ok s → after (front ++ s ∷ []) rest ≡ after front (o >>= λ s. rest >>= λ list. Ok (s ∷ list))
taken front o s rest e = with_one front s rest ∙ sym (ap (λ o. after front (o >>= λ s. rest >>= λ list. Ok (s ∷ list))) e)

-- a token has this symbol
pub symbols-more : (front : List Symbol) (t : Token) (ts : List Token) (s : Symbol) → symbol_of t ≡ Ok s → after (front ++ s ∷ []) (symbols_of ts) ≡ after front (symbols_of (t ∷ ts))
symbols-more front t ts s e = taken front (symbol_of t) s (symbols_of ts) e

-- a token has a fault
pub symbols-fault : (front : List Symbol) (t : Token) (ts : List Token) (fault : ExprFault) → symbol_of t ≡ Err fault → after front (symbols_of (t ∷ ts)) ≡ Err fault
symbols-fault front t ts fault e = ap (λ o. after front (o >>= λ s. symbols_of ts >>= λ list. Ok (s ∷ list))) e

-- the fault, if there is one, is one of tokens
abbrev OfTokens : {A : Type 0} → Result A ExprFault → Type 0
OfTokens (Ok x) = Unit {0}
OfTokens (Err fault) = is_token_fault fault ≡ true

chained : {A B : Type 0} (a : Result A ExprFault) (f : A → Result B ExprFault) → OfTokens a → ((x : A) → OfTokens (f x)) → OfTokens (a >>= f)
chained (Ok x) f p q = q x
chained (Err fault) f p q = p

of_number : (n : Option Number) → OfTokens (constant_or BadNumber n)
of_number None = refl
of_number (Some n) = tt

of_character : (n : Option Number) → OfTokens (constant_or BadChar n)
of_character None = refl
of_character (Some n) = tt

of_symbol : (kind : Kind) (text : List ℕ) → OfTokens (symbol_by kind text)
of_symbol Identifier text = tt
of_symbol NumberKind text = of_number (number_of text)
of_symbol Char text = of_character (character_of text)
of_symbol Punct text = tt
of_symbol Str text = tt
of_symbol Header text = tt
of_symbol LoneQuote text = tt
of_symbol OtherKind text = tt

of_symbols : (tokens : List Token) → OfTokens (symbols_of tokens)
of_symbols [] = tt
of_symbols (t ∷ ts) =
    chained (symbol_of t) (λ s. symbols_of ts >>= λ rest. Ok (s ∷ rest)) (of_symbol t.kind t.text)
    (λ s. chained (symbols_of ts) (λ rest. Ok (s ∷ rest)) (of_symbols ts) (λ rest. tt))

of_condition : (test : Bool) (symbols : Result (List Symbol) ExprFault) → OfTokens symbols → OfTokens (if test then Err DefinedFromMacro else symbols)
of_condition true symbols h = refl
of_condition false symbols h = h

pub token_fault : (tokens : List Token) (fault : ExprFault) → condition_symbols tokens ≡ Err fault → is_token_fault fault ≡ true
token_fault tokens fault e = subst OfTokens e (of_condition (list_any is_defined tokens) (symbols_of tokens) (of_symbols tokens))
