use Rattle.std.proofs.Common.{refl}
use Rattle.dwmac_run.proofs.EndLemmas.{ends_usage, ends_ran_out, ends_few}
use Rattle.dwmac_run.proofs.finish.finish.Goals as goal

pub returns-in-Written-clause-ends : goal.returns-in-Written-clause-ends
returns-in-Written-clause-ends g c =
    ends_few c.args.outcome c.in-Written.files c.as_slice-in-Written.result.now _ _ c.say.result _ _ c.in-Written.is c.as_slice-in-Written.ensures.value c.of_text.ensures c.in-NoMemory-put_all.ensures.answer refl c.say.ensures.said

pub returns-in-Usage-clause-ends : goal.returns-in-Usage-clause-ends
returns-in-Usage-clause-ends g c = ends_usage c.args.outcome _ c.say-in-Usage.result _ _ c.in-Usage.is c.of_text-in-Usage.ensures refl refl c.say-in-Usage.ensures.said

pub returns-in-NoMemory-clause-ends : goal.returns-in-NoMemory-clause-ends
returns-in-NoMemory-clause-ends g c = ends_ran_out c.args.outcome _ c.say-in-NoMemory.result _ _ c.in-NoMemory.is c.of_text-in-NoMemory.ensures refl refl c.say-in-NoMemory.ensures.said
