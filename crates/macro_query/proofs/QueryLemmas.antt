-- What there is to be said to a query is one thing.
use Rattle.std.proofs.Common.{◌≡◌, ◌⊎◌, ℕ, Bool, true, false, ltb, List, length, Option, Some, None, Result, Ok, Err, inl, inr, refl, ap, subst, ◌∙◌, sym}
use Rattle.std.specs.Prelude.{◌≤◌, IsErrAnd}
use borrow.Author.Tests.{le-ltb}
use Rattle.std.specs.Bool.{MatchBool}
use Rattle.mac_base.specs.SectionBytes.{SectionBytes}
use Rattle.mac_base.proofs.Choices.{same_some, same_ok}
use Rattle.info_roots.specs.declared.fault.InfoFault.{InfoFault}
use Rattle.info_roots.specs.declared.root.Root.{Root}
use Rattle.info_roots.specs.Roots.{roots_in}
use Rattle.macro_query.specs.Roots.{ByRoots, RootsSay}
use Rattle.section_views.specs.declared.fault.ElfFault.{ElfFault}
use Rattle.section_views.specs.Faults.{first_fault}
use Rattle.section_views.specs.View.{view_of}
use Rattle.unit_header.specs.declared.fault.UnitFault.{UnitFault}
use Rattle.unit_header.specs.declared.fault.UnitKind.TheVariants.{ImportRange}
use Rattle.macro_query.specs.declared.fault.QueryFault.{QueryFault}
use Rattle.macro_query.specs.declared.fault.QueryFault.TheVariants.{Elf, Info, Line, Unit as BadUnit, NoSuchUnit, Position, Text, Expand, ReportTooLong, NoMemory as RanOut}
use Rattle.macro_query.specs.Queries.{UnitSays, ByElf, FileSays, SectionSays, RawSays, UnitAtSays}
use Rattle.macro_query.specs.Laws.{One}
use Rattle.mac_base.specs.Input.{Input}
use Rattle.unit_header.specs.Header.{Header}
use Rattle.macro_opcodes.specs.Entry.{Entry}
use Rattle.macro_opcodes.specs.Reading.{entry_at}
use Rattle.macro_query.specs.Unit.{shown}
use Rattle.macro_query.specs.Limits.{Answers}
use Rattle.macro_query.proofs.ReadingLemmas.{ReadSoFar, read_fault, Decided, decided}
use Rattle.macro_query.proofs.OneReading.{one_fault, no_fault, one_report}

abbrev pub Said : Type 0
Said = Result (List ℕ) QueryFault

pub one_same : {A : Type 0} (x : A) → One (λ said. said ≡ x)
one_same x = (x, refl, λ other is. is)

one_by : (b : Bool) (P Q : Said → Type 0) → One P → One Q → One (λ said. MatchBool b (P said) (Q said))
one_by true P Q one other = one
one_by false P Q one other = other

pub one_by_elf : {A : Type 0} (fault : Option ElfFault) (Says : Result A QueryFault → Type 0) → One Says → One (ByElf fault Says)
one_by_elf (Some fault) Says one = one_same (Err (Elf fault))
one_by_elf None Says one = one

pub one_file : {A : Type 0} (Says : SectionBytes → Result A QueryFault → Type 0) (file : List ℕ) → ((s : SectionBytes) → One (Says s)) → One (FileSays Says file)
one_file Says file one = one_by_elf (first_fault file) (Says (view_of file)) (one (view_of file))

same_unit : (strs : Option (List ℕ)) (section : List ℕ) (offset : ℕ) (a b : Said) → UnitSays strs section offset a → UnitSays strs section offset b → a ≡ b
same_unit strs section offset (Ok s) (Ok t) is also = ap Ok (one_report strs section offset s t is also)
same_unit strs section offset (Ok s) (Err (BadUnit fault)) is also = absurd (no_fault strs section offset s fault is also)
same_unit strs section offset (Err (BadUnit fault)) (Ok t) is also = absurd (no_fault strs section offset t fault also is)
same_unit strs section offset (Err (BadUnit fault)) (Err (BadUnit other)) is also = ap (λ (f : UnitFault). Err (BadUnit f)) (one_fault strs section offset fault other is also)
same_unit strs section offset (Ok s) (Err (Elf fault)) is also = absurd also
same_unit strs section offset (Ok s) (Err (Text other)) is also = absurd also
same_unit strs section offset (Ok s) (Err (Expand other)) is also = absurd also
same_unit strs section offset (Ok s) (Err ReportTooLong) is also = absurd also
same_unit strs section offset (Ok s) (Err (Info other)) is also = absurd also
same_unit strs section offset (Ok s) (Err (Line other)) is also = absurd also
same_unit strs section offset (Ok s) (Err NoSuchUnit) is also = absurd also
same_unit strs section offset (Ok s) (Err (Position other)) is also = absurd also
same_unit strs section offset (Ok s) (Err RanOut) is also = absurd also
same_unit strs section offset (Err (BadUnit fault)) (Err (Elf other)) is also = absurd also
same_unit strs section offset (Err (BadUnit fault)) (Err (Text other)) is also = absurd also
same_unit strs section offset (Err (BadUnit fault)) (Err (Expand other)) is also = absurd also
same_unit strs section offset (Err (BadUnit fault)) (Err ReportTooLong) is also = absurd also
same_unit strs section offset (Err (BadUnit fault)) (Err (Info other)) is also = absurd also
same_unit strs section offset (Err (BadUnit fault)) (Err (Line other)) is also = absurd also
same_unit strs section offset (Err (BadUnit fault)) (Err NoSuchUnit) is also = absurd also
same_unit strs section offset (Err (BadUnit fault)) (Err (Position other)) is also = absurd also
same_unit strs section offset (Err (BadUnit fault)) (Err RanOut) is also = absurd also
same_unit strs section offset (Err (Elf fault)) b is also = absurd is
same_unit strs section offset (Err (Text other)) b is also = absurd is
same_unit strs section offset (Err (Expand other)) b is also = absurd is
same_unit strs section offset (Err ReportTooLong) b is also = absurd is
same_unit strs section offset (Err (Info other)) b is also = absurd is
same_unit strs section offset (Err (Line other)) b is also = absurd is
same_unit strs section offset (Err NoSuchUnit) b is also = absurd is
same_unit strs section offset (Err (Position other)) b is also = absurd is
same_unit strs section offset (Err RanOut) b is also = absurd is

unit_by : (strs : Option (List ℕ)) (section : List ℕ) (offset : ℕ) → Decided strs section offset → One (UnitSays strs section offset)
unit_by strs section offset (inl found) = (Ok found.0, found.1, λ other is. same_unit strs section offset other (Ok found.0) is found.1)
unit_by strs section offset (inr found) = (Err (BadUnit found.0), found.1, λ other is. same_unit strs section offset other (Err (BadUnit found.0)) is found.1)

one_unit : (strs : Option (List ℕ)) (section : List ℕ) (offset : ℕ) → One (UnitSays strs section offset)
one_unit strs section offset = unit_by strs section offset (decided strs section offset)

pub one_raw : (bytes : List ℕ) → One (RawSays bytes)
one_raw bytes = one_unit None bytes 0

one_section : (offset : ℕ) (s : SectionBytes) → One (SectionSays offset s)
one_section offset s = one_by (ltb offset (length s.macros)) (UnitSays (Some s.strs) s.macros offset) (λ said. said ≡ Err (BadUnit (record { at = offset; what = ImportRange }))) (one_unit (Some s.strs) s.macros offset) (one_same _)

pub one_unit_at : (offset : ℕ) (file : List ℕ) → One (UnitAtSays offset file)
one_unit_at offset file = one_file (SectionSays offset) file (one_section offset)

-- a fault that is handed on stays what it is
pub handed_on : (result : Said) (fault : QueryFault) → IsErrAnd result (λ found. found ≡ fault) → result ≡ Err fault
handed_on (Ok text) fault is = absurd is
handed_on (Err found) fault is = ap Err is

-- why an entry's line is not added
abbrev pub Stops : Option (List ℕ) → Entry → QueryFault → Type 0
Stops strs e stop = (stop ≡ RanOut) ⊎ ((fault : UnitFault) × (stop ≡ BadUnit fault) × (shown strs e ≡ Err fault))

pub stopped : (strs : Option (List ℕ)) (section : List ℕ) (offset : ℕ) (h : Header) (q r : Input) (e : Entry) (lines : List Entry) (stop : QueryFault) (result : Said) →
    ReadSoFar strs section offset h q lines → entry_at h q ≡ Ok (Some e, r) → Stops strs e stop → IsErrAnd result (λ found. found ≡ stop) → Answers result (UnitSays strs section offset)
stopped strs section offset h q r e lines stop result so_far read (inl ran) is = inl (handed_on result stop is ∙ ap Err ran)
stopped strs section offset h q r e lines stop result so_far read (inr found) is =
    inr (Err (BadUnit found.0), read_fault strs section offset h q lines found.0 so_far (inr (e, r, read, found.2)), handed_on result stop is ∙ ap Err found.1)

-- what is to be said of a part, and so of the whole
pub answers_by : (result : Said) (Part Whole : Said → Type 0) → Answers result Part → ((said : Said) → Part said → Whole said) → Answers result Whole
answers_by result Part Whole (inl ran) more = inl ran
answers_by result Part Whole (inr found) more = inr (found.0, more found.0 found.1, found.2)

by_elf : {A : Type 0} (found : Option ElfFault) (Says : Result A QueryFault → Type 0) (said : Result A QueryFault) → found ≡ None → Says said → ByElf found Says said
by_elf (Some fault) Says said is says = cc
by_elf None Says said is says = says

-- a file whose sections are found
pub of_sections : (Says : SectionBytes → Said → Type 0) (file : List ℕ) (s : SectionBytes) (result : Said) → (first_fault file ≡ None) × (s ≡ view_of file) → Answers result (Says s) → Answers result (FileSays Says file)
of_sections Says file s result found answer =
    answers_by result (Says s) (FileSays Says file) answer
    (λ said says. by_elf (first_fault file) (Says (view_of file)) said found.0 (subst (λ (v : SectionBytes). Says v said) found.1 says))

of_elf_by : {A : Type 0} (found : Option ElfFault) (Says : Result A QueryFault → Type 0) (elf : ElfFault) → found ≡ Some elf → ByElf found Says (Err (Elf elf))
of_elf_by (Some fault) Says elf is = ap (λ (f : ElfFault). Err (Elf f)) (same_some elf fault (sym is))
of_elf_by None Says elf is = cc

-- and one with a fault
pub of_elf : (Says : SectionBytes → Said → Type 0) (file : List ℕ) (fault : QueryFault) (result : Said) → (elf : ElfFault) × (fault ≡ Elf elf) × (first_fault file ≡ Some elf) → IsErrAnd result (λ found. found ≡ fault) → Answers result (FileSays Says file)
of_elf Says file fault result found is =
    inr (Err (Elf found.0), of_elf_by (first_fault file) (Says (view_of file)) found.0 found.2, handed_on result fault is ∙ ap Err found.1)

by_false : (b : Bool) (P Q : Type 0) → b ≡ false → Q → MatchBool b P Q
by_false true P Q is q = cc
by_false false P Q is q = q

-- an offset that is outside the section
pub outside_section : (offset : ℕ) (s : SectionBytes) → length s.macros ≤ offset → SectionSays offset s (Err (BadUnit (record { at = offset; what = ImportRange })))
outside_section offset s out = by_false (ltb offset (length s.macros)) _ _ (le-ltb offset (length s.macros) out) refl

by_roots : {A : Type 0} (read : Result (List Root) InfoFault) (Says : List Root → Result A QueryFault → Type 0) (roots : List Root) (said : Result A QueryFault) → read ≡ Ok roots → Says roots said → ByRoots read Says said
by_roots (Ok found) Says roots said is says = subst (λ (rs : List Root). Says rs said) (same_ok roots found (sym is)) says
by_roots (Err fault) Says roots said is says = cc

-- a file whose roots are found
pub of_roots : (Says : SectionBytes → List Root → Said → Type 0) (s : SectionBytes) (roots read : List Root) (result : Said) → roots_in s ≡ Ok roots → read ≡ roots → Answers result (Says s read) → Answers result (RootsSay Says s)
of_roots Says s roots read result found same answer =
    answers_by result (Says s read) (RootsSay Says s) answer (λ said says. by_roots (roots_in s) (Says s) roots said found (subst (λ (rs : List Root). Says s rs said) same says))

same_info : (x y : InfoFault) → ◌≡◌ {A = Result (List Root) InfoFault} (Err x) (Err y) → x ≡ y
same_info x y is = cc

of_info_by : {A : Type 0} (read : Result (List Root) InfoFault) (Says : List Root → Result A QueryFault → Type 0) (fault : InfoFault) → read ≡ Err fault → ByRoots read Says (Err (Info fault))
of_info_by (Ok found) Says fault is = cc
of_info_by (Err found) Says fault is = ap (λ (f : InfoFault). Err (Info f)) (same_info fault found (sym is))

-- and one with a fault
pub of_info : (Says : SectionBytes → List Root → Said → Type 0) (s : SectionBytes) (fault : QueryFault) (result : Said) →
    (fault ≡ RanOut) ⊎ ((info : InfoFault) × (fault ≡ Info info) × (roots_in s ≡ Err info)) → IsErrAnd result (λ found. found ≡ fault) → Answers result (RootsSay Says s)
of_info Says s fault result (inl ran) is = inl (handed_on result fault is ∙ ap Err ran)
of_info Says s fault result (inr found) is = inr (Err (Info found.0), of_info_by (roots_in s) (Says s) found.0 found.2, handed_on result fault is ∙ ap Err found.1)

-- what the roots of these sections lead to
pub roots_pass : {A : Type 0} (Leads : SectionBytes → List Root → Result A QueryFault → Type 0) (s : SectionBytes) (roots read : List Root) → roots_in s ≡ Ok roots → read ≡ roots →
    (found : Result A QueryFault) → Leads s read found → RootsSay Leads s found
roots_pass Leads s roots read there same found leads = by_roots (roots_in s) (Leads s) roots found there (subst (λ (rs : List Root). Leads s rs found) same leads)

pub roots_fail : {A : Type 0} (Leads : SectionBytes → List Root → Result A QueryFault → Type 0) (s : SectionBytes) (fault : QueryFault) →
    (fault ≡ RanOut) ⊎ ((info : InfoFault) × (fault ≡ Info info) × (roots_in s ≡ Err info)) → (fault ≡ RanOut) ⊎ RootsSay Leads s (Err fault)
roots_fail Leads s fault (inl ran) = inl ran
roots_fail Leads s fault (inr found) = inr (subst (λ (f : QueryFault). RootsSay Leads s (Err f)) (sym found.1) (of_info_by (roots_in s) (Leads s) found.0 found.2))

-- what the sections of this file lead to
pub sections_pass : {A : Type 0} (Leads : SectionBytes → Result A QueryFault → Type 0) (file : List ℕ) (s : SectionBytes) → (first_fault file ≡ None) × (s ≡ view_of file) →
    (found : Result A QueryFault) → Leads s found → FileSays Leads file found
sections_pass Leads file s there found leads = by_elf (first_fault file) (Leads (view_of file)) found there.0 (subst (λ (v : SectionBytes). Leads v found) there.1 leads)

pub sections_fail : {A : Type 0} (Leads : SectionBytes → Result A QueryFault → Type 0) (file : List ℕ) (fault : QueryFault) →
    (elf : ElfFault) × (fault ≡ Elf elf) × (first_fault file ≡ Some elf) → (fault ≡ RanOut) ⊎ FileSays Leads file (Err fault)
sections_fail Leads file fault found =
    inr (subst (λ (f : QueryFault). FileSays Leads file (Err f)) (sym found.1) (of_elf_by (first_fault file) (Leads (view_of file)) found.0 found.2))
