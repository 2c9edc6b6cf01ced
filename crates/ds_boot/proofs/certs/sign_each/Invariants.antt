use Rattle.std.proofs.Common.{◌≡◌, take}
use Rattle.ds_setup.specs.Lists.{each}
use Rattle.ds_setup.specs.Signed.{doc_certs}
use Rattle.ds_boot.specs.Signing.{signer_behind}
use Rattle.ds_boot.proofs.certs.sign_each.Given as goal

abbrev pub invariant-loop-place : goal.invariant-loop-place
invariant-loop-place l =
    record {
      certs : l.certs.items ≡ doc_certs l.doc.hosts (take l.place l.doc.certs);
      signers : l.signers ≡ each (signer_behind (take l.place l.doc.certs)) l.doc.hosts;
    }
