use Rattle.dc_session.proofs.AskingLemmas.{capb_does}
use Rattle.dc_session.proofs.session.Session.capb.Goals as goal

pub returns-clause-does : goal.returns-clause-does
returns-clause-does g c =
    capb_does _ c.args.words.now c.has_word-self.result c.has_word-self-2.result c.in_ok-told.told (rw c.as_slice.ensures at c.has_word-self.ensures) (rw c.as_slice-2.ensures at c.has_word-self-2.ensures)
    (rw c.capabilities.ensures at c.in_ok-told.ensures)
