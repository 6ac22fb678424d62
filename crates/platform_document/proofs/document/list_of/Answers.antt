use Rattle.platform_document.proofs.Documents.{list_from}
use Rattle.platform_document.proofs.document.list_of.Goals as goal

pub returns-in-Some-clause-list : goal.returns-in-Some-clause-list
returns-in-Some-clause-list c =
    list_from c.args.path c.args.first c.args.last _ c.in-Some.values.now.items c.deref.result.now _ c.in-Some.ensures c.deref.ensures.value c.counted.ensures.list
