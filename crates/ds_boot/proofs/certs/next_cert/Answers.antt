use Rattle.std.proofs.Common.{take}
use Rattle.ds_boot.proofs.Signers.{made_at, signer_count, key_count, can_sign, cert_made, signers_made, signers_given}
use Rattle.ds_boot.proofs.certs.next_cert.Goals as goal

pub made_cert-requires-clause-there : goal.made_cert-requires-clause-there
made_cert-requires-clause-there c =
    let m = made_at c.args.doc.now c.requires.document c.args.place c.args.spec.now c.in-Made.by c.in-Made.category c.in-Made.to c.in-Made.from c.in-Made.until c.in-Made.at c.requires.there c.in-Made.is in
    rw c.requires.signers (rw (signer_count c.args.doc.now.hosts (take c.args.place c.args.doc.now.certs)) m.by_there)

pub made_cert-requires-clause-leaf : goal.made_cert-requires-clause-leaf
made_cert-requires-clause-leaf c =
    let m = made_at c.args.doc.now c.requires.document c.args.place c.args.spec.now c.in-Made.by c.in-Made.category c.in-Made.to c.in-Made.from c.in-Made.until c.in-Made.at c.requires.there c.in-Made.is in
    rw c.requires.signers (can_sign c.args.doc.now (take c.args.place c.args.doc.now.certs) c.in-Made.by m.signs)

pub made_cert-requires-clause-by : goal.made_cert-requires-clause-by
made_cert-requires-clause-by c =
    let m = made_at c.args.doc.now c.requires.document c.args.place c.args.spec.now c.in-Made.by c.in-Made.category c.in-Made.to c.in-Made.from c.in-Made.until c.in-Made.at c.requires.there c.in-Made.is in
    rw c.requires.keys (rw (key_count c.args.doc.now.hosts) m.by_there)

pub made_cert-requires-clause-to : goal.made_cert-requires-clause-to
made_cert-requires-clause-to c =
    let m = made_at c.args.doc.now c.requires.document c.args.place c.args.spec.now c.in-Made.by c.in-Made.category c.in-Made.to c.in-Made.from c.in-Made.until c.in-Made.at c.requires.there c.in-Made.is in
    rw c.requires.keys (rw (key_count c.args.doc.now.hosts) m.to_there)

pub returns-in_ok-copy_places-in-Made-clause-cert : goal.returns-in_ok-copy_places-in-Made-clause-cert
returns-in_ok-copy_places-in-Made-clause-cert c =
    let m = made_at c.args.doc.now c.requires.document c.args.place c.args.spec.now c.in-Made.by c.in-Made.category c.in-Made.to c.in-Made.from c.in-Made.until c.in-Made.at c.requires.there c.in-Made.is in
    rw c.in_ok-copy_places-in-Made.ensures (cert_made c.args.doc.now (take c.args.place c.args.doc.now.certs) c.args.spec.now c.in-Made.by c.in-Made.category c.in-Made.to c.in-Made.from c.in-Made.until c.in-Made.at c.args.keys.now c.args.signers.now c.in_ok-made_cert-in-Made.field-0
    m.signs c.in-Made.is c.requires.keys c.requires.signers c.in_ok-made_cert-in-Made.ensures.made)

pub returns-in_ok-copy_places-in-Made-clause-signers : goal.returns-in_ok-copy_places-in-Made-clause-signers
returns-in_ok-copy_places-in-Made-clause-signers c =
    let m = made_at c.args.doc.now c.requires.document c.args.place c.args.spec.now c.in-Made.by c.in-Made.category c.in-Made.to c.in-Made.from c.in-Made.until c.in-Made.at c.requires.there c.in-Made.is in
    signers_made c.args.doc.now (take c.args.place c.args.doc.now.certs) c.args.spec.now c.in-Made.by c.in-Made.category c.in-Made.to c.in-Made.from c.in-Made.until c.in-Made.at c.args.signers.now c.made_cert.new.signers
    m.signs c.in-Made.is c.requires.signers c.in_ok-made_cert-in-Made.ensures.signers

pub returns-in_ok-copy_places-in-Given-clause-signers : goal.returns-in_ok-copy_places-in-Given-clause-signers
returns-in_ok-copy_places-in-Given-clause-signers c = signers_given c.args.doc.now (take c.args.place c.args.doc.now.certs) c.args.spec.now c.in-Given.cert c.in-Given.at c.args.signers.now c.in-Given.is c.requires.signers
