-- How a call answers what a definition of the specs gives, where memory may run out. `ran_out` is the fault for want of memory.
use Rattle.std.specs.Prelude.{◌≡◌, ◌⊎◌, Result, Ok, Err}
use Rattle.mac_base.specs.Input.{Input}

-- a fault that is answered is the one that reading gives, unless memory ran out
abbrev pub IsFaultOf : {A E : Type 0} → E → Result A E → E → Type 0
IsFaultOf {A} {E} ran_out reading fault = (fault ≡ ran_out) ⊎ (reading ≡ Err fault)

-- a call answers exactly what reading gives, or that memory ran out
abbrev pub Answers : {A E : Type 0} → E → Result A E → Result A E → Type 0
Answers ran_out (Ok x) reading = reading ≡ Ok x
Answers ran_out (Err fault) reading = IsFaultOf ran_out reading fault

-- the same, where the value is seen by view
abbrev pub AnswersAs : {X A E : Type 0} → E → (X → A) → Result X E → Result A E → Type 0
AnswersAs ran_out view (Ok x) reading = reading ≡ Ok (view x)
AnswersAs ran_out view (Err fault) reading = IsFaultOf ran_out reading fault

-- the same of a call that leaves its input after what it read
abbrev pub TakesAs : {X A E : Type 0} → E → (X → A) → Input → Result X E → Result (A × Input) E → Type 0
TakesAs ran_out view new (Ok x) reading = reading ≡ Ok (view x, new)
TakesAs ran_out view new (Err fault) reading = IsFaultOf ran_out reading fault

-- a call answers what there is to be said, by this relation, or that memory ran out
abbrev pub AnswersBy : {A E : Type 0} → E → Result A E → (Result A E → Type 0) → Type 0
AnswersBy ran_out result Says = (result ≡ Err ran_out) ⊎ Says result
