use Rattle.std.proofs.Common.{◌≡◌, ℕ, List, Bool, false, Option, Result, Ok, refl, sym, inl, inr, rules}
use Rattle.std.proofs.lemmas.Result.{err_from_is_err_and}
use Rattle.serde_json.specs.Data.{Data}
use Rattle.serde_json.specs.View.{view}
use Rattle.json_objects.specs.Reading.{◌>>=◌, Fails}
use Rattle.gnap_model.specs.declared.objects.Modes.{Modes}
use Rattle.gnap_objects.specs.declared.fault.ObjectFault.{ObjectFault}
use Rattle.gnap_objects.specs.declared.fault.ObjectFault.TheVariants.{OutOfMemory}
use Rattle.gnap_objects.specs.declared.grants.ClientName.{ClientName}
use Rattle.gnap_objects.specs.declared.token_requests.TokenRequests.{TokenRequests}
use Rattle.gnap_objects.specs.TokenRequests.{token_requests_of}
use Rattle.gnap_objects.specs.Users.{subject_request_of}
use Rattle.gnap_objects.specs.Interactions.{interact_of}
use Rattle.gnap_objects.specs.Grants.{some_asked, client_of, named_user_of, asks_too_much, grant_body_of}
use Rattle.gnap_objects.proofs.grants.grant_body_of.Goals as goal

-- the first fault is that of the whole
faulty : {A B : Type 0} (e : ObjectFault) (r : Result A ObjectFault) (f : A → Result B ObjectFault) → Fails OutOfMemory e r → Fails OutOfMemory e (r >>= f)
faulty e r f (inl is) = inl is
faulty e r f (inr is) = inr (rw is refl)

module _ (modify : Bool) (d : Data) where
  tokens_faulty : (e : ObjectFault) → Fails OutOfMemory e (token_requests_of d) → Fails OutOfMemory e (grant_body_of modify d)
  unfolding grant_body_of
  tokens_faulty e fault = faulty e (token_requests_of d) _ fault

  module _ (tokens : TokenRequests) (tokens_read : token_requests_of d ≡ Ok tokens) where
    subject_faulty : (e : ObjectFault) → Fails OutOfMemory e (subject_request_of d) → Fails OutOfMemory e (grant_body_of modify d)
    unfolding grant_body_of
    subject_faulty e fault = rw tokens_read (faulty e (subject_request_of d) _ fault)

    module _ (subject : Bool) (subject_read : subject_request_of d ≡ Ok subject) (asked : some_asked tokens subject ≡ Ok tokens) where
      client_faulty : (e : ObjectFault) → Fails OutOfMemory e (client_of modify d) → Fails OutOfMemory e (grant_body_of modify d)
      unfolding grant_body_of
      client_faulty e fault = rw (tokens_read, subject_read, asked) (faulty e (client_of modify d) _ fault)

      module _ (client : ClientName) (client_read : client_of modify d ≡ Ok client) where
        user_faulty : (e : ObjectFault) → Fails OutOfMemory e (named_user_of modify d) → Fails OutOfMemory e (grant_body_of modify d)
        unfolding grant_body_of
        user_faulty e fault = rw (tokens_read, subject_read, asked, client_read) (faulty e (named_user_of modify d) _ fault)

        module _ (user : Option (List ℕ)) (user_read : named_user_of modify d ≡ Ok user) where
          modes_faulty : (e : ObjectFault) → Fails OutOfMemory e (interact_of d) → Fails OutOfMemory e (grant_body_of modify d)
          unfolding grant_body_of
          modes_faulty e fault = rw (tokens_read, subject_read, asked, client_read, user_read) (faulty e (interact_of d) _ fault)

          all_read : (modes : Option Modes) → interact_of d ≡ Ok modes → asks_too_much tokens.asks ≡ false
              → grant_body_of modify d ≡ Ok (record {
                request = record {
                  asks = tokens.asks;
                  single = tokens.single;
                  subject = subject;
                  client = client.id;
                  by_object = client.by_object;
                  user = user;
                  modes = modes;
                };
                repeats_flag = tokens.repeats_flag;
              })
          unfolding grant_body_of
          all_read modes modes_read few = rw (tokens_read, subject_read, asked, client_read, user_read, modes_read, few) refl

pub returns-in_err-tokens-clause-value : goal.returns-in_err-tokens-clause-value
returns-in_err-tokens-clause-value c =
    let p = err_from_is_err_and c.from_residual.result c.from_residual.ensures.1 in
    rw (p.1, p.2) (tokens_faulty c.args.modify (view c.args.value.now) c.in_err-tokens.field-0.0 c.in_err-tokens.ensures.value)

pub returns-in_err-subject-clause-value : goal.returns-in_err-subject-clause-value
returns-in_err-subject-clause-value c =
    let p = err_from_is_err_and c.from_residual-in_err-subject.result c.from_residual-in_err-subject.ensures.1 in
    rw (p.1, p.2) (subject_faulty c.args.modify (view c.args.value.now) c.in_ok-tokens.tokens c.in_ok-tokens.ensures.value
    c.in_err-subject.field-0.0 c.in_err-subject.ensures)

pub returns-in_err-client-clause-value : goal.returns-in_err-client-clause-value
returns-in_err-client-clause-value c =
    let p = err_from_is_err_and c.from_residual-in_err-client.result c.from_residual-in_err-client.ensures.1 in
    let asked : some_asked c.in_ok-tokens.tokens c.in_ok-subject.subject ≡ Ok c.in_ok-tokens.tokens = search rules in
    rw (p.1, p.2) (client_faulty c.args.modify (view c.args.value.now) c.in_ok-tokens.tokens c.in_ok-tokens.ensures.value
    c.in_ok-subject.subject c.in_ok-subject.ensures asked c.in_err-client.field-0.0 c.in_err-client.ensures.value)

pub returns-in_err-user-clause-value : goal.returns-in_err-user-clause-value
returns-in_err-user-clause-value c =
    let p = err_from_is_err_and c.from_residual-in_err-user.result c.from_residual-in_err-user.ensures.1 in
    let asked : some_asked c.in_ok-tokens.tokens c.in_ok-subject.subject ≡ Ok c.in_ok-tokens.tokens = search rules in
    rw (p.1, p.2) (user_faulty c.args.modify (view c.args.value.now) c.in_ok-tokens.tokens c.in_ok-tokens.ensures.value
    c.in_ok-subject.subject c.in_ok-subject.ensures asked c.in_ok-client.client c.in_ok-client.ensures.value
    c.in_err-user.field-0.0 c.in_err-user.ensures.value)

pub returns-in_err-modes-clause-value : goal.returns-in_err-modes-clause-value
returns-in_err-modes-clause-value c =
    let p = err_from_is_err_and c.from_residual-in_err-modes.result c.from_residual-in_err-modes.ensures.1 in
    let asked : some_asked c.in_ok-tokens.tokens c.in_ok-subject.subject ≡ Ok c.in_ok-tokens.tokens = search rules in
    rw (p.1, p.2) (modes_faulty c.args.modify (view c.args.value.now) c.in_ok-tokens.tokens c.in_ok-tokens.ensures.value
    c.in_ok-subject.subject c.in_ok-subject.ensures asked c.in_ok-client.client c.in_ok-client.ensures.value c.in_ok-user.user c.in_ok-user.ensures.value
    c.in_err-modes.field-0.0 c.in_err-modes.ensures.value)

pub returns-clause-value : goal.returns-clause-value
returns-clause-value c =
    let asked : some_asked c.in_ok-tokens.tokens c.in_ok-subject.subject ≡ Ok c.in_ok-tokens.tokens = search rules in
    all_read c.args.modify (view c.args.value.now) c.in_ok-tokens.tokens c.in_ok-tokens.ensures.value
    c.in_ok-subject.subject c.in_ok-subject.ensures asked c.in_ok-client.client c.in_ok-client.ensures.value c.in_ok-user.user c.in_ok-user.ensures.value
    c.in_ok-modes.modes c.in_ok-modes.ensures.value (sym c.if-asks_too_much.ensures)
