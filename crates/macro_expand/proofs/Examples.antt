-- The examples of C17 6.10.3.3 and 6.10.3.5, and small texts for single rules, computed from the definition.
use Rattle.std.specs.Prelude.{ℕ, ◌≡◌, true, false, if◌then◌else◌, List, [], ◌∷◌, ◌++◌, codes, bytes_eq, Some, None, Result, Ok, Err, refl}
use Rattle.pp_tokens.specs.declared.token.Token.{Token}
use Rattle.pp_tokens.specs.declared.token.Kind.{Kind}
use Rattle.pp_tokens.specs.declared.token.Kind.TheVariants.{Identifier, Number, Str, Punct, LoneQuote as LoneQuoteKind, Other}
use Rattle.macro_expand.specs.declared.here.Here.{Here}
use Rattle.macro_expand.specs.declared.fault.ExpandFault.{ExpandFault}
use Rattle.macro_expand.specs.declared.fault.ExpandFault.TheVariants.{OpenCall, ArgCount, BadPaste, BadString, BadDefinition, LoneQuote}
use Rattle.macro_table.specs.Definitions.{DefValue}
use Rattle.macro_expand.specs.Macros.{Macros}
use Rattle.macro_expand.specs.Calls.{closed, split, stands_free}
use Rattle.macro_expand.specs.Substituted.{put_in, pasted_on, pasted, substituted}
use Rattle.macro_expand.specs.Expansion.{expand, expand_once, expansion, single_level, whole}

-- tokens without white space before them
abbrev token : Kind → List ℕ → Token
token kind text = record { kind = kind; text = text; space = false }

abbrev name : List ℕ → Token
name = token Identifier

abbrev number : List ℕ → Token
number = token Number

abbrev string : List ℕ → Token
string = token Str

abbrev sign : List ℕ → Token
sign = token Punct

abbrev quote : List ℕ → Token
quote = token LoneQuoteKind

abbrev other : List ℕ → Token
other = token Other

-- the token with white space before it
abbrev spaced_token : Token → Token
spaced_token t = record { kind = t.kind; text = t.text; space = true }

-- the texts of tokens, with a space where the mark is
abbrev written : List Token → List ℕ
written [] = []
written (t ∷ ts) = (if t.space then 32 ∷ [] else []) ++ t.text ++ written ts

abbrev text_of : Result (List Token) ExpandFault → Result (List ℕ) ExpandFault
text_of (Ok ts) = Ok (written ts)
text_of (Err fault) = Err fault

-- what each name of these definitions stands for; `Z` has a text that is no definition
abbrev macros_of : List DefValue → Macros
macros_of [] name = if bytes_eq (codes "Z") name then Some None else None
macros_of (d ∷ ds) name = if bytes_eq d.name name then Some (Some d) else macros_of ds name

abbrev there : Here
there = record { line = 3; file = codes "m.c" }

abbrev expands : List DefValue → List Token → Result (List ℕ) ExpandFault
expands defs tokens = text_of (whole (expansion (macros_of defs) there) tokens)

abbrev once : List DefValue → List Token → Result (List ℕ) ExpandFault
once defs tokens = text_of (whole (single_level (macros_of defs) there) tokens)

abbrev three : List DefValue
three =
    -- x 2
    record { name = codes "x"; params = None; variadic = false; body = number (codes "2") ∷ [] } ∷
    -- f(a) f(x * (a))
    record { name = codes "f"; params = Some (codes "a" ∷ []); variadic = false; body = name (codes "f") ∷ sign (codes "(") ∷ name (codes "x") ∷ spaced_token (sign (codes "*")) ∷ spaced_token (sign (codes "(")) ∷ name (codes "a") ∷ sign (codes ")") ∷ sign (codes ")") ∷ [] } ∷
    -- g f
    record { name = codes "g"; params = None; variadic = false; body = name (codes "f") ∷ [] } ∷
    -- z z[0]
    record { name = codes "z"; params = None; variadic = false; body = name (codes "z") ∷ sign (codes "[") ∷ number (codes "0") ∷ sign (codes "]") ∷ [] } ∷
    -- h g(~
    record { name = codes "h"; params = None; variadic = false; body = name (codes "g") ∷ sign (codes "(") ∷ sign (codes "~") ∷ [] } ∷
    -- m(a) a(w)
    record { name = codes "m"; params = Some (codes "a" ∷ []); variadic = false; body = name (codes "a") ∷ sign (codes "(") ∷ name (codes "w") ∷ sign (codes ")") ∷ [] } ∷
    -- w 0,1
    record { name = codes "w"; params = None; variadic = false; body = number (codes "0") ∷ sign (codes ",") ∷ number (codes "1") ∷ [] } ∷
    -- t(a) a
    record { name = codes "t"; params = Some (codes "a" ∷ []); variadic = false; body = name (codes "a") ∷ [] } ∷
    -- p() int
    record { name = codes "p"; params = Some ([]); variadic = false; body = name (codes "int") ∷ [] } ∷
    -- q(x) x
    record { name = codes "q"; params = Some (codes "x" ∷ []); variadic = false; body = name (codes "x") ∷ [] } ∷
    -- r(x,y) x ## y
    record { name = codes "r"; params = Some (codes "x" ∷ codes "y" ∷ []); variadic = false; body = name (codes "x") ∷ spaced_token (sign (codes "##")) ∷ spaced_token (name (codes "y")) ∷ [] } ∷
    -- str(x) # x
    record { name = codes "str"; params = Some (codes "x" ∷ []); variadic = false; body = sign (codes "#") ∷ spaced_token (name (codes "x")) ∷ [] } ∷
    []

abbrev hashes : List DefValue
hashes =
    -- hash_hash # ## #
    record { name = codes "hash_hash"; params = None; variadic = false; body = sign (codes "#") ∷ spaced_token (sign (codes "##")) ∷ spaced_token (sign (codes "#")) ∷ [] } ∷
    -- mkstr(a) # a
    record { name = codes "mkstr"; params = Some (codes "a" ∷ []); variadic = false; body = sign (codes "#") ∷ spaced_token (name (codes "a")) ∷ [] } ∷
    -- in_between(a) mkstr(a)
    record { name = codes "in_between"; params = Some (codes "a" ∷ []); variadic = false; body = name (codes "mkstr") ∷ sign (codes "(") ∷ name (codes "a") ∷ sign (codes ")") ∷ [] } ∷
    -- join(c,d) in_between(c hash_hash d)
    record { name = codes "join"; params = Some (codes "c" ∷ codes "d" ∷ []); variadic = false; body = name (codes "in_between") ∷ sign (codes "(") ∷ name (codes "c") ∷ spaced_token (name (codes "hash_hash")) ∷ spaced_token (name (codes "d")) ∷ sign (codes ")") ∷ [] } ∷
    []

abbrev five : List DefValue
five =
    -- t(x,y,z) x ## y ## z
    record { name = codes "t"; params = Some (codes "x" ∷ codes "y" ∷ codes "z" ∷ []); variadic = false; body = name (codes "x") ∷ spaced_token (sign (codes "##")) ∷ spaced_token (name (codes "y")) ∷ spaced_token (sign (codes "##")) ∷ spaced_token (name (codes "z")) ∷ [] } ∷
    []

abbrev parentheses : List DefValue
parentheses =
    -- f(x) x
    record { name = codes "f"; params = Some (codes "x" ∷ []); variadic = false; body = name (codes "x") ∷ [] } ∷
    -- LP (
    record { name = codes "LP"; params = None; variadic = false; body = sign (codes "(") ∷ [] } ∷
    []

abbrev nested : List DefValue
nested =
    -- f(a) a*g
    record { name = codes "f"; params = Some (codes "a" ∷ []); variadic = false; body = name (codes "a") ∷ sign (codes "*") ∷ name (codes "g") ∷ [] } ∷
    -- g(a) f(a)
    record { name = codes "g"; params = Some (codes "a" ∷ []); variadic = false; body = name (codes "f") ∷ sign (codes "(") ∷ name (codes "a") ∷ sign (codes ")") ∷ [] } ∷
    []

abbrev small : List DefValue
small =
    -- f(x) x
    record { name = codes "f"; params = Some (codes "x" ∷ []); variadic = false; body = name (codes "x") ∷ [] } ∷
    -- h(a,b) a##b
    record { name = codes "h"; params = Some (codes "a" ∷ codes "b" ∷ []); variadic = false; body = name (codes "a") ∷ sign (codes "##") ∷ name (codes "b") ∷ [] } ∷
    -- s(x) #x
    record { name = codes "s"; params = Some (codes "x" ∷ []); variadic = false; body = sign (codes "#") ∷ name (codes "x") ∷ [] } ∷
    -- HH(x,y) x ## ## y
    record { name = codes "HH"; params = Some (codes "x" ∷ codes "y" ∷ []); variadic = false; body = name (codes "x") ∷ spaced_token (sign (codes "##")) ∷ spaced_token (sign (codes "##")) ∷ spaced_token (name (codes "y")) ∷ [] } ∷
    -- v(x,...) [x|__VA_ARGS__]
    record { name = codes "v"; params = Some (codes "x" ∷ []); variadic = true; body = sign (codes "[") ∷ name (codes "x") ∷ sign (codes "|") ∷ name (codes "__VA_ARGS__") ∷ sign (codes "]") ∷ [] } ∷
    -- w(...) #__VA_ARGS__
    record { name = codes "w"; params = Some ([]); variadic = true; body = sign (codes "#") ∷ name (codes "__VA_ARGS__") ∷ [] } ∷
    -- A 1
    record { name = codes "A"; params = None; variadic = false; body = number (codes "1") ∷ [] } ∷
    -- I(x) x
    record { name = codes "I"; params = Some (codes "x" ∷ []); variadic = false; body = name (codes "x") ∷ [] } ∷
    []

abbrev travels : List DefValue
travels =
    -- A g E (1)
    record { name = codes "A"; params = None; variadic = false; body = name (codes "g") ∷ spaced_token (name (codes "E")) ∷ spaced_token (sign (codes "(")) ∷ number (codes "1") ∷ sign (codes ")") ∷ [] } ∷
    -- g(x) A
    record { name = codes "g"; params = Some (codes "x" ∷ []); variadic = false; body = name (codes "A") ∷ [] } ∷
    -- E
    record { name = codes "E"; params = None; variadic = false; body = [] } ∷
    -- i(x) x
    record { name = codes "i"; params = Some (codes "x" ∷ []); variadic = false; body = name (codes "x") ∷ [] } ∷
    []

abbrev marks : List DefValue
marks =
    -- e
    record { name = codes "e"; params = None; variadic = false; body = [] } ∷
    -- o(x) [ x]
    record { name = codes "o"; params = Some (codes "x" ∷ []); variadic = false; body = sign (codes "[") ∷ spaced_token (name (codes "x")) ∷ sign (codes "]") ∷ [] } ∷
    -- twice(x) x x
    record { name = codes "twice"; params = Some (codes "x" ∷ []); variadic = false; body = name (codes "x") ∷ spaced_token (name (codes "x")) ∷ [] } ∷
    -- k(x) #x x##x x
    record { name = codes "k"; params = Some (codes "x" ∷ []); variadic = false; body = sign (codes "#") ∷ name (codes "x") ∷ spaced_token (name (codes "x")) ∷ sign (codes "##") ∷ name (codes "x") ∷ spaced_token (name (codes "x")) ∷ [] } ∷
    []

-- f(y+1) + f(f(z)) % t(t(g)(0) + t)(1);
example0 : expands three (name (codes "f") ∷ sign (codes "(") ∷ name (codes "y") ∷ sign (codes "+") ∷ number (codes "1") ∷ sign (codes ")") ∷ spaced_token (sign (codes "+")) ∷ spaced_token (name (codes "f")) ∷ sign (codes "(") ∷ name (codes "f") ∷ sign (codes "(") ∷ name (codes "z") ∷ sign (codes ")") ∷ sign (codes ")") ∷ spaced_token (sign (codes "%")) ∷ spaced_token (name (codes "t")) ∷ sign (codes "(") ∷ name (codes "t") ∷ sign (codes "(") ∷ name (codes "g") ∷ sign (codes ")") ∷ sign (codes "(") ∷ number (codes "0") ∷ sign (codes ")") ∷ spaced_token (sign (codes "+")) ∷ spaced_token (name (codes "t")) ∷ sign (codes ")") ∷ sign (codes "(") ∷ number (codes "1") ∷ sign (codes ")") ∷ sign (codes ";") ∷ []) ≡ Ok (codes "f(2 * (y+1)) + f(2 * (f(2 * (z[0])))) % f(2 * (0)) + t(1);")
unfolding substituted put_in pasted_on pasted closed split stands_free expand
example0 = refl

-- g(x+(3,4)-w) | h 5) & m (f)^m(m);
example1 : expands three (name (codes "g") ∷ sign (codes "(") ∷ name (codes "x") ∷ sign (codes "+") ∷ sign (codes "(") ∷ number (codes "3") ∷ sign (codes ",") ∷ number (codes "4") ∷ sign (codes ")") ∷ sign (codes "-") ∷ name (codes "w") ∷ sign (codes ")") ∷ spaced_token (sign (codes "|")) ∷ spaced_token (name (codes "h")) ∷ spaced_token (number (codes "5")) ∷ sign (codes ")") ∷ spaced_token (sign (codes "&")) ∷ spaced_token (name (codes "m")) ∷ spaced_token (sign (codes "(")) ∷ name (codes "f") ∷ sign (codes ")") ∷ sign (codes "^") ∷ name (codes "m") ∷ sign (codes "(") ∷ name (codes "m") ∷ sign (codes ")") ∷ sign (codes ";") ∷ []) ≡ Ok (codes "f(2 * (2+(3,4)-0,1)) | f(2 * (~ 5)) & f(2 * (0,1))^m(0,1);")
unfolding substituted put_in pasted_on pasted closed split stands_free expand
example1 = refl

-- p() i[q()] = { q(1), r(2,3), r(4,), r(,5), r(,) };
example2 : expands three (name (codes "p") ∷ sign (codes "(") ∷ sign (codes ")") ∷ spaced_token (name (codes "i")) ∷ sign (codes "[") ∷ name (codes "q") ∷ sign (codes "(") ∷ sign (codes ")") ∷ sign (codes "]") ∷ spaced_token (sign (codes "=")) ∷ spaced_token (sign (codes "{")) ∷ spaced_token (name (codes "q")) ∷ sign (codes "(") ∷ number (codes "1") ∷ sign (codes ")") ∷ sign (codes ",") ∷ spaced_token (name (codes "r")) ∷ sign (codes "(") ∷ number (codes "2") ∷ sign (codes ",") ∷ number (codes "3") ∷ sign (codes ")") ∷ sign (codes ",") ∷ spaced_token (name (codes "r")) ∷ sign (codes "(") ∷ number (codes "4") ∷ sign (codes ",") ∷ sign (codes ")") ∷ sign (codes ",") ∷ spaced_token (name (codes "r")) ∷ sign (codes "(") ∷ sign (codes ",") ∷ number (codes "5") ∷ sign (codes ")") ∷ sign (codes ",") ∷ spaced_token (name (codes "r")) ∷ sign (codes "(") ∷ sign (codes ",") ∷ sign (codes ")") ∷ spaced_token (sign (codes "}")) ∷ sign (codes ";") ∷ []) ≡ Ok (codes "int i[] = { 1, 23, 4, 5, };")
unfolding substituted put_in pasted_on pasted closed split stands_free expand
example2 = refl

-- char c[2][6] = { str(hello), str() };
example3 : expands three (name (codes "char") ∷ spaced_token (name (codes "c")) ∷ sign (codes "[") ∷ number (codes "2") ∷ sign (codes "]") ∷ sign (codes "[") ∷ number (codes "6") ∷ sign (codes "]") ∷ spaced_token (sign (codes "=")) ∷ spaced_token (sign (codes "{")) ∷ spaced_token (name (codes "str")) ∷ sign (codes "(") ∷ name (codes "hello") ∷ sign (codes ")") ∷ sign (codes ",") ∷ spaced_token (name (codes "str")) ∷ sign (codes "(") ∷ sign (codes ")") ∷ spaced_token (sign (codes "}")) ∷ sign (codes ";") ∷ []) ≡ Ok (codes "char c[2][6] = { \"hello\", \"\" };")
unfolding substituted put_in pasted_on pasted closed split stands_free expand
example3 = refl

-- join(x, y)
example4 : expands hashes (name (codes "join") ∷ sign (codes "(") ∷ name (codes "x") ∷ sign (codes ",") ∷ spaced_token (name (codes "y")) ∷ sign (codes ")") ∷ []) ≡ Ok (codes "\"x ## y\"")
unfolding substituted put_in pasted_on pasted closed split stands_free expand
example4 = refl

-- int j[] = { t(1,2,3), t(,4,5), t(6,,7), t(8,9,), t(10,,), t(,11,), t(,,12), t(,,) };
example5 : expands five (name (codes "int") ∷ spaced_token (name (codes "j")) ∷ sign (codes "[") ∷ sign (codes "]") ∷ spaced_token (sign (codes "=")) ∷ spaced_token (sign (codes "{")) ∷ spaced_token (name (codes "t")) ∷ sign (codes "(") ∷ number (codes "1") ∷ sign (codes ",") ∷ number (codes "2") ∷ sign (codes ",") ∷ number (codes "3") ∷ sign (codes ")") ∷ sign (codes ",") ∷ spaced_token (name (codes "t")) ∷ sign (codes "(") ∷ sign (codes ",") ∷ number (codes "4") ∷ sign (codes ",") ∷ number (codes "5") ∷ sign (codes ")") ∷ sign (codes ",") ∷ spaced_token (name (codes "t")) ∷ sign (codes "(") ∷ number (codes "6") ∷ sign (codes ",") ∷ sign (codes ",") ∷ number (codes "7") ∷ sign (codes ")") ∷ sign (codes ",") ∷ spaced_token (name (codes "t")) ∷ sign (codes "(") ∷ number (codes "8") ∷ sign (codes ",") ∷ number (codes "9") ∷ sign (codes ",") ∷ sign (codes ")") ∷ sign (codes ",") ∷ spaced_token (name (codes "t")) ∷ sign (codes "(") ∷ number (codes "10") ∷ sign (codes ",") ∷ sign (codes ",") ∷ sign (codes ")") ∷ sign (codes ",") ∷ spaced_token (name (codes "t")) ∷ sign (codes "(") ∷ sign (codes ",") ∷ number (codes "11") ∷ sign (codes ",") ∷ sign (codes ")") ∷ sign (codes ",") ∷ spaced_token (name (codes "t")) ∷ sign (codes "(") ∷ sign (codes ",") ∷ sign (codes ",") ∷ number (codes "12") ∷ sign (codes ")") ∷ sign (codes ",") ∷ spaced_token (name (codes "t")) ∷ sign (codes "(") ∷ sign (codes ",") ∷ sign (codes ",") ∷ sign (codes ")") ∷ spaced_token (sign (codes "}")) ∷ sign (codes ";") ∷ []) ≡ Ok (codes "int j[] = { 123, 45, 67, 89, 10, 11, 12, };")
unfolding substituted put_in pasted_on pasted closed split stands_free expand
example5 = refl

-- f LP 1 )
example6 : expands parentheses (name (codes "f") ∷ spaced_token (name (codes "LP")) ∷ spaced_token (number (codes "1")) ∷ spaced_token (sign (codes ")")) ∷ []) ≡ Ok (codes "f ( 1 )")
unfolding substituted put_in pasted_on pasted closed split stands_free expand
example6 = refl

-- f(2)(9)
example7 : expands nested (name (codes "f") ∷ sign (codes "(") ∷ number (codes "2") ∷ sign (codes ")") ∷ sign (codes "(") ∷ number (codes "9") ∷ sign (codes ")") ∷ []) ≡ Ok (codes "2*9*g")
unfolding substituted put_in pasted_on pasted closed split stands_free expand
example7 = refl

-- A+A __FILE__
example8 : expands small (name (codes "A") ∷ sign (codes "+") ∷ name (codes "A") ∷ spaced_token (name (codes "__FILE__")) ∷ []) ≡ Ok (codes "1+1 \"m.c\"")
unfolding substituted put_in pasted_on pasted closed split stands_free expand
example8 = refl

-- v(1,2,3) v(1) w(a, "b")
example9 : expands small (name (codes "v") ∷ sign (codes "(") ∷ number (codes "1") ∷ sign (codes ",") ∷ number (codes "2") ∷ sign (codes ",") ∷ number (codes "3") ∷ sign (codes ")") ∷ spaced_token (name (codes "v")) ∷ sign (codes "(") ∷ number (codes "1") ∷ sign (codes ")") ∷ spaced_token (name (codes "w")) ∷ sign (codes "(") ∷ name (codes "a") ∷ sign (codes ",") ∷ spaced_token (string (codes "\"b\"")) ∷ sign (codes ")") ∷ []) ≡ Ok (codes "[1|2,3] [1|] \"a, \\\"b\\\"\"")
unfolding substituted put_in pasted_on pasted closed split stands_free expand
example9 = refl

-- I(I(I(1)))
example10 : expands small (name (codes "I") ∷ sign (codes "(") ∷ name (codes "I") ∷ sign (codes "(") ∷ name (codes "I") ∷ sign (codes "(") ∷ number (codes "1") ∷ sign (codes ")") ∷ sign (codes ")") ∷ sign (codes ")") ∷ []) ≡ Ok (codes "1")
unfolding substituted put_in pasted_on pasted closed split stands_free expand
example10 = refl

-- HH(,b)
example11 : expands small (name (codes "HH") ∷ sign (codes "(") ∷ sign (codes ",") ∷ name (codes "b") ∷ sign (codes ")") ∷ []) ≡ Ok (codes "## b")
unfolding substituted put_in pasted_on pasted closed split stands_free expand
example11 = refl

-- i(A)
example12 : expands travels (name (codes "i") ∷ sign (codes "(") ∷ name (codes "A") ∷ sign (codes ")") ∷ []) ≡ Ok (codes "A")
unfolding substituted put_in pasted_on pasted closed split stands_free expand
example12 = refl

-- o(e) o( a) o() twice( a) e b
example13 : expands marks (name (codes "o") ∷ sign (codes "(") ∷ name (codes "e") ∷ sign (codes ")") ∷ spaced_token (name (codes "o")) ∷ sign (codes "(") ∷ spaced_token (name (codes "a")) ∷ sign (codes ")") ∷ spaced_token (name (codes "o")) ∷ sign (codes "(") ∷ sign (codes ")") ∷ spaced_token (name (codes "twice")) ∷ sign (codes "(") ∷ spaced_token (name (codes "a")) ∷ sign (codes ")") ∷ spaced_token (name (codes "e")) ∷ spaced_token (name (codes "b")) ∷ []) ≡ Ok (codes "[] [ a] [] a a b")
unfolding substituted put_in pasted_on pasted closed split stands_free expand
example13 = refl

-- k(A)
example14 : expands marks (name (codes "k") ∷ sign (codes "(") ∷ name (codes "A") ∷ sign (codes ")") ∷ []) ≡ Ok (codes "\"A\" AA A")
unfolding substituted put_in pasted_on pasted closed split stands_free expand
example14 = refl

-- f(1
example15 : expands small (name (codes "f") ∷ sign (codes "(") ∷ number (codes "1") ∷ []) ≡ Err (OpenCall (codes "f"))
unfolding substituted put_in pasted_on pasted closed split stands_free expand
example15 = refl

-- f(1,2)
example16 : expands small (name (codes "f") ∷ sign (codes "(") ∷ number (codes "1") ∷ sign (codes ",") ∷ number (codes "2") ∷ sign (codes ")") ∷ []) ≡ Err (ArgCount (codes "f") 2)
unfolding substituted put_in pasted_on pasted closed split stands_free expand
example16 = refl

-- h(+,*)
example17 : expands small (name (codes "h") ∷ sign (codes "(") ∷ sign (codes "+") ∷ sign (codes ",") ∷ sign (codes "*") ∷ sign (codes ")") ∷ []) ≡ Err (BadPaste (codes "+") (codes "*"))
unfolding substituted put_in pasted_on pasted closed split stands_free expand
example17 = refl

-- s(\)
example18 : expands small (name (codes "s") ∷ sign (codes "(") ∷ other (codes "\\") ∷ sign (codes ")") ∷ []) ≡ Err (BadString (codes "s"))
unfolding substituted put_in pasted_on pasted closed split stands_free expand
example18 = refl

-- Z
example19 : expands small (name (codes "Z") ∷ []) ≡ Err (BadDefinition (codes "Z"))
unfolding substituted put_in pasted_on pasted closed split stands_free expand
example19 = refl

-- HH(a,b)
example20 : expands small (name (codes "HH") ∷ sign (codes "(") ∷ name (codes "a") ∷ sign (codes ",") ∷ name (codes "b") ∷ sign (codes ")") ∷ []) ≡ Err (BadPaste (codes "a") (codes "##"))
unfolding substituted put_in pasted_on pasted closed split stands_free expand
example20 = refl

-- don't
example21 : expands small (name (codes "don") ∷ quote (codes "'") ∷ name (codes "t") ∷ []) ≡ Err LoneQuote
unfolding substituted put_in pasted_on pasted closed split stands_free expand
example21 = refl

-- f(f(z)) + z w
level0 : once three (name (codes "f") ∷ sign (codes "(") ∷ name (codes "f") ∷ sign (codes "(") ∷ name (codes "z") ∷ sign (codes ")") ∷ sign (codes ")") ∷ spaced_token (sign (codes "+")) ∷ spaced_token (name (codes "z")) ∷ spaced_token (name (codes "w")) ∷ []) ≡ Ok (codes "f(x * (f(z))) + z[0] 0,1")
unfolding substituted put_in pasted_on pasted closed split stands_free expand_once
level0 = refl

-- t(t(1)) g
level1 : once three (name (codes "t") ∷ sign (codes "(") ∷ name (codes "t") ∷ sign (codes "(") ∷ number (codes "1") ∷ sign (codes ")") ∷ sign (codes ")") ∷ spaced_token (name (codes "g")) ∷ []) ≡ Ok (codes "t(1) f")
unfolding substituted put_in pasted_on pasted closed split stands_free expand_once
level1 = refl

-- I(A) A
level2 : once small (name (codes "I") ∷ sign (codes "(") ∷ name (codes "A") ∷ sign (codes ")") ∷ spaced_token (name (codes "A")) ∷ []) ≡ Ok (codes "A 1")
unfolding substituted put_in pasted_on pasted closed split stands_free expand_once
level2 = refl
