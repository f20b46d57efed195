use Rattle.mac_io.proofs.CountLemmas.{told_same, folders_same, within_told, cause_of_one, store_cause_of_one}
use Rattle.mac_io.proofs.search_path.SearchPathStores.fetch.Goals as goal

pub returns-clause-same : goal.returns-clause-same
returns-clause-same g c = told_same _ _ c.args.self.now.stores.items c.args.store c.fetch.new.self c.index_mut.result.now c.index_mut.ensures.value c.fetch.ensures.label c.fetch.ensures.same

pub returns-clause-cause : goal.returns-clause-cause
returns-clause-cause g c = cause_of_one _ c.args.self.now.retired c.args.self.now.stores.items c.args.store c.fetch.new.self c.index_mut.result.now _ (within_told _ c.args.self.now.stores.items c.args.store c.requires) c.index_mut.ensures.value c.fetch.ensures.cause

pub returns-clause-places : goal.returns-clause-places
returns-clause-places g c = folders_same _ c.args.self.now.stores.items c.args.store c.fetch.new.self c.index_mut.result.now c.index_mut.ensures.value c.fetch.ensures.place

pub returns-clause-store_cause : goal.returns-clause-store_cause
returns-clause-store_cause g c = store_cause_of_one _ c.args.self.now.retired c.args.self.now.stores.items c.args.store c.fetch.new.self c.index_mut.result.now _ (within_told _ c.args.self.now.stores.items c.args.store c.requires) c.index_mut.ensures.value c.fetch.ensures.cause
