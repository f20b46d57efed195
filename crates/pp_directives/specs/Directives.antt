-- Which directive a line of tokens is (C17 6.10 p1 and p2).
use Rattle.std.specs.Prelude.{ℕ, if◌then◌else◌, List, [], ◌∷◌, Option, Some, None}
use lib.Chars.{codes}
use Rattle.pp_tokens.specs.Kinds.{same}
use Rattle.pp_tokens.specs.declared.token.Token.{Token}
use Rattle.macro_table.specs.Definitions.{is_identifier, is_hash}
use Rattle.pp_directives.specs.declared.directive.Directive.{Directive}
use Rattle.pp_directives.specs.declared.directive.Directive.TheVariants.{Text, Null, If, Ifdef, Ifndef, Elif, Else, Endif, Include, Define, Undef, LineNumber, Error, Pragma, Unknown}
use Rattle.pp_directives.specs.declared.directive_name.DirectiveName.{DirectiveName}
use Rattle.pp_directives.specs.declared.directive_name.DirectiveName.TheVariants.{If as IfWord, Ifdef as IfdefWord, Ifndef as IfndefWord, Elif as ElifWord, Else as ElseWord, Endif as EndifWord, Include as IncludeWord, Define as DefineWord, Undef as UndefWord, Line as LineWord, Error as ErrorWord, Pragma as PragmaWord, Other as OtherWord}

-- the names of directives
abbrev pub word_of : List ℕ → DirectiveName
word_of name =
    if same name (codes "if") then IfWord else
    (if same name (codes "ifdef") then IfdefWord else
    (if same name (codes "ifndef") then IfndefWord else
    (if same name (codes "elif") then ElifWord else
    (if same name (codes "else") then ElseWord else
    (if same name (codes "endif") then EndifWord else
    (if same name (codes "include") then IncludeWord else
    (if same name (codes "define") then DefineWord else
    (if same name (codes "undef") then UndefWord else
    (if same name (codes "line") then LineWord else
    (if same name (codes "error") then ErrorWord else
    (if same name (codes "pragma") then PragmaWord else OtherWord)))))))))))

-- the identifier that comes first, if one does; what follows it is not looked at, which is the project's own
abbrev pub first_name : List Token → Option (List ℕ)
first_name [] = None
first_name (t ∷ ts) = if is_identifier t then Some t.text else None

-- the directive of this name, before these tokens
abbrev pub directive_named : DirectiveName → List Token → Directive
directive_named IfWord after = If
directive_named IfdefWord after = Ifdef (first_name after)
directive_named IfndefWord after = Ifndef (first_name after)
directive_named ElifWord after = Elif
directive_named ElseWord after = Else
directive_named EndifWord after = Endif
directive_named IncludeWord after = Include
directive_named DefineWord after = Define
directive_named UndefWord after = Undef (first_name after)
directive_named LineWord after = LineNumber
directive_named ErrorWord after = Error
directive_named PragmaWord after = Pragma
directive_named OtherWord after = Unknown

-- the directive after its `#`: none, or that which the first token names
abbrev pub directive_after : List Token → Directive
directive_after [] = Null
directive_after (t ∷ ts) = directive_named (word_of t.text) ts

-- what a line is: a directive where `#`, or `%:` (6.4.6 p3), comes first
abbrev pub directive_of : List Token → Directive
directive_of [] = Text
directive_of (t ∷ ts) = if is_hash t then directive_after ts else Text
