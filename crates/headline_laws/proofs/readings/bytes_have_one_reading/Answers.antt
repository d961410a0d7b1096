use Rattle.documents.proofs.Once.{no_fault}
use Rattle.headline_laws.proofs.Reading as of
use Rattle.headline_laws.proofs.readings.bytes_have_one_reading.Goals as goal

pub returns-clause-document : goal.returns-clause-document
returns-clause-document c = of.one_document

pub returns-clause-fault : goal.returns-clause-fault
returns-clause-fault c = of.one_fault

pub returns-clause-never_both : goal.returns-clause-never_both
returns-clause-never_both c = no_fault
