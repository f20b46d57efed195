-- Worked cases of macro definitions (C17 6.10.3), computed.
use Rattle.std.proofs.Common.{◌≡◌, ℕ, Bool, true, false, List, [], ◌∷◌, Some, None, Result, Ok, Err, refl}
use lib.Chars.{codes}
use Rattle.pp_tokens.specs.declared.token.Kind.{Kind}
use Rattle.pp_tokens.specs.declared.token.Kind.TheVariants.{Identifier, Number, Punct}
use Rattle.pp_tokens.specs.declared.token.Token.{Token}
use Rattle.pp_tokens.specs.declared.fault.LexFault.TheVariants.{OpenComment, NulByte}
use Rattle.macro_table.specs.declared.fault.DefFault.{DefFault}
use Rattle.macro_table.specs.declared.fault.DefFault.TheVariants.{NoName, Reserved, ParamSyntax, RepeatedParam, VaArgs, LoneQuote, EdgePaste, LoneHash}
use Rattle.macro_table.specs.declared.fault.TextFault.{TextFault}
use Rattle.macro_table.specs.declared.fault.TextFault.TheVariants.{Lex, Def}
use Rattle.macro_table.specs.Definitions.{DefValue}
use Rattle.macro_table.specs.SameDefinitions.{same_def}
use Rattle.macro_table.specs.Texts.{text_of, def_of_text}

-- a token of a kind, after white space or not
abbrev token : Kind → List ℕ → Bool → Token
token kind text space = record { kind = kind; text = text; space = space }

abbrev name : List ℕ → Bool → Token
name = token Identifier

abbrev mark : List ℕ → Bool → Token
mark = token Punct

abbrev refused : DefFault → Result DefValue TextFault
refused fault = Err (Def fault)

-- #define t(x,y,z) x ## y ## z (6.10.3.5, example 5)
abbrev t : DefValue
t = record {
  name = codes "t";
  params = Some (codes "x" ∷ codes "y" ∷ codes "z" ∷ []);
  variadic = false;
  body = name (codes "x") true ∷ mark (codes "##") true ∷ name (codes "y") true ∷ mark (codes "##") true ∷ name (codes "z") true ∷ [];
}

pasting : def_of_text (codes "t(x,y,z) x ## y ## z") ≡ Ok t
pasting = refl

pasted_again : text_of t ≡ codes "t(x,y,z) x ## y ## z"
pasted_again = refl

-- #define str(s) # s (6.10.3.5, example 4)
abbrev str : DefValue
str = record { name = codes "str"; params = Some (codes "s" ∷ []); variadic = false; body = mark (codes "#") true ∷ name (codes "s") true ∷ [] }

in_quotes : def_of_text (codes "str(s) # s") ≡ Ok str
in_quotes = refl

-- #define h g(~ (6.10.3.5, example 3)
abbrev h : DefValue
h = record { name = codes "h"; params = None; variadic = false; body = name (codes "g") true ∷ mark (codes "(") false ∷ mark (codes "~") false ∷ [] }

open_call : def_of_text (codes "h g(~") ≡ Ok h
open_call = refl

-- #define debug(...) fprintf(stderr, __VA_ARGS__) (6.10.3.5, example 7)
abbrev debug : DefValue
debug = record {
  name = codes "debug";
  params = Some [];
  variadic = true;
  body = name (codes "fprintf") true ∷ mark (codes "(") false ∷ name (codes "stderr") false ∷ mark (codes ",") false ∷ name (codes "__VA_ARGS__") true ∷ mark (codes ")") false ∷ [];
}

variadic : def_of_text (codes "debug(...) fprintf(stderr, __VA_ARGS__)") ≡ Ok debug
variadic = refl

variadic_again : text_of debug ≡ codes "debug(...) fprintf(stderr, __VA_ARGS__)"
variadic_again = refl

-- #define showlist(...) puts(#__VA_ARGS__) (6.10.3.5, example 7), with a parameter before the others
in_quotes_all : text_of (record { name = codes "showlist"; params = Some (codes "a" ∷ []); variadic = true; body = mark (codes "#") true ∷ name (codes "__VA_ARGS__") false ∷ [] }) ≡ codes "showlist(a,...) #__VA_ARGS__"
in_quotes_all = refl

-- #define EMPTY (6.10 p8)
abbrev empty : DefValue
empty = record { name = codes "EMPTY"; params = None; variadic = false; body = [] }

nothing : def_of_text (codes "EMPTY") ≡ Ok empty
nothing = refl

nothing_again : text_of empty ≡ codes "EMPTY "
nothing_again = refl

-- the list is part of the replacement list where white space is before it
abbrev object : DefValue
object = record { name = codes "f"; params = None; variadic = false; body = mark (codes "(") true ∷ name (codes "x") false ∷ mark (codes ")") false ∷ [] }

white_space_before_the_list : def_of_text (codes "f (x)") ≡ Ok object
white_space_before_the_list = refl

no_white_space : def_of_text (codes "A+1") ≡ Ok (record { name = codes "A"; params = None; variadic = false; body = mark (codes "+") false ∷ token Number (codes "1") false ∷ [] })
no_white_space = refl

no_name : def_of_text (codes "1 A") ≡ refused NoName
no_name = refl

no_tokens : def_of_text [] ≡ refused NoName
no_tokens = refl

reserved : def_of_text (codes "defined(x) '") ≡ refused Reserved
reserved = refl

open_list : def_of_text (codes "f(x") ≡ refused ParamSyntax
open_list = refl

only_opened : def_of_text (codes "Z(") ≡ refused ParamSyntax
only_opened = refl

no_comma : def_of_text (codes "f(x y,x)") ≡ refused ParamSyntax
no_comma = refl

no_last : def_of_text (codes "f(x,)") ≡ refused ParamSyntax
no_last = refl

dots_in_the_middle : def_of_text (codes "f(x,...,y)") ≡ refused ParamSyntax
dots_in_the_middle = refl

repeated : def_of_text (codes "f(x,y,x,1") ≡ refused RepeatedParam
repeated = refl

va_args_as_param : def_of_text (codes "f(__VA_ARGS__ 1") ≡ refused VaArgs
va_args_as_param = refl

apostrophe : def_of_text (codes "A don't ## __VA_ARGS__ ##") ≡ refused LoneQuote
apostrophe = refl

no_dots : def_of_text (codes "f(x) # __VA_ARGS__ ##") ≡ refused VaArgs
no_dots = refl

paste_first : def_of_text (codes "A ## b") ≡ refused EdgePaste
paste_first = refl

paste_last : def_of_text (codes "f(x) #y %:%:") ≡ refused EdgePaste
paste_last = refl

hash_alone : def_of_text (codes "f(x) #x %:y") ≡ refused LoneHash
hash_alone = refl

hash_last : def_of_text (codes "f(x) x#") ≡ refused LoneHash
hash_last = refl

-- #define hash_hash # ## # (6.10.3.3 p4): in an object-like macro any # may be there
hash_hash : def_of_text (codes "hash_hash # ## #") ≡ Ok (record { name = codes "hash_hash"; params = None; variadic = false; body = mark (codes "#") true ∷ mark (codes "##") true ∷ mark (codes "#") true ∷ [] })
hash_hash = refl

open_comment : def_of_text (codes "A /*") ≡ Err (Lex (OpenComment 1))
open_comment = refl

nul : def_of_text (65 ∷ 0 ∷ []) ≡ Err (Lex (NulByte 1))
nul = refl

-- #define FUNC_LIKE(a) ( a ), again with other white space and with another parameter (6.10.3.5, example 6)
abbrev call : List ℕ → Bool → DefValue
call param space = record { name = codes "FUNC_LIKE"; params = Some (param ∷ []); variadic = false; body = mark (codes "(") space ∷ name param true ∷ mark (codes ")") true ∷ [] }

valid_again : same_def (call (codes "a") true) (call (codes "a") false) ≡ true
valid_again = refl

other_param : same_def (call (codes "a") true) (call (codes "b") true) ≡ false
other_param = refl

other_spelling : same_def (record empty { body = mark (codes "#") true ∷ [] }) (record empty { body = mark (codes "%:") true ∷ [] }) ≡ false
other_spelling = refl
