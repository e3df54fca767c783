-- Random histories of the grant machine: every reply and every note is the one that an independent implementation of its rules gave, and so is, after
-- some of them, of each value whether requests and replies alone show it to last, and whether it is live.
use Rattle.std.specs.Prelude.{◌≡◌, refl, true, false, List, [], ◌∷◌, replicate}
use Rattle.std.specs.declared.option.Option.TheVariants.{None, Some}
use Rattle.base64.specs.Rfc4648.{encode_symbols}
use Rattle.gnap_model.specs.declared.rights.Right.TheVariants.{Reference}
use Rattle.gnap_model.specs.Values.{value_text, code_text}
use Rattle.gnap_model.specs.declared.objects.Binding.TheVariants.{Httpsig, Bearer}
use Rattle.gnap_model.specs.declared.objects.Verdict.TheVariants.{Grant, Unknown}
use Rattle.gnap_model.specs.declared.calls.Call.TheVariants.{Begin, Introspect, Lapse, Look, FindCode, Decide, Continue, Modify, Cancel, Rotate, Revoke}
use Rattle.gnap_model.specs.declared.objects.ErrorCode.TheVariants.{InvalidRequest, InvalidClient, InvalidInteraction, InvalidRotation, InvalidContinuation, RequestDenied, UnknownInteraction, TooFast, TooManyAttempts, InvalidAccess}
use Rattle.gnap_model.specs.declared.calls.Reply.TheVariants.{Granted, Active, Inactive, Error, Lapsed, Pending, Shown, Handle, Decided, Continuing, Done, Rotated}
use Rattle.gnap_model.specs.declared.notes.Why.TheVariants.{ByRotation, ByModification, ByRevocation}
use Rattle.gnap_model.specs.declared.notes.Note.TheVariants.{Approved, Door, Finalized, Wrong, Retired}
use Rattle.test_machine.proofs.ExampleHistories.{Line, line, words, outcomes}
use Rattle.test_machine.proofs.GeneratedWords.{out, asked, told, object, ask_of, finish_by, modes_of, request_of, decide_of, token_out, finish_out, opened, terms, issued, pended, decided}
use Rattle.test_machine.proofs.GeneratedSetups.{rules_0, rules_1, rules_2, text_3, text_5, text_6, text_7, text_9, text_13, text_14, text_16, text_17, text_18, text_19, text_20, text_21, text_22, text_23, text_24, text_25, text_27, text_30, text_31, text_32, text_33, text_34, text_35, text_36, text_39, text_40, text_41, text_42, text_44, text_45, text_46, text_47, text_48, text_49, text_50, text_51, text_52, text_53, text_56, text_59, text_60, text_64, text_66, text_67, text_68, text_69, text_70, text_71, text_74, text_75, text_76, text_90, text_91, text_92, text_93, text_94, text_95, text_96, text_97, text_98, text_99, text_100, text_101, text_102, text_103, text_104, text_105, text_106, text_107, text_108, text_109, text_110, text_111}

-- ---- random history 27
abbrev lines_27 : List Line
lines_27 = line 1700000000 (words [] 0)
    (Begin text_3 (request_of ((ask_of None ((Reference text_6) ∷ []) false) ∷ []) true false (Some text_3) true None (Some (modes_of true false false None)))
    None)
    ∷ line 1700000000 (words (121211428195050598 ∷ 9715973533671764555 ∷ []) 1) (Continue text_3 text_53 (Some text_40))
    ∷ line 1700000001 (words [] 18446744073709551615) (Continue text_3 text_53 (Some text_40))
    ∷ line 1700000001 (words [] 14712882373661794067) (Continue text_3 text_53 (Some text_40))
    ∷ line 1700000001 (words [] 2) (Modify text_3 text_53
    (request_of ((ask_of (Some text_31) ((object text_16 (Some (text_17 ∷ text_18 ∷ [])) (Some (text_19 ∷ [])) None None None text_20) ∷ []) false) ∷ []) true
    true (Some text_3) true (Some text_27) (Some (modes_of true true false None))))
    ∷ line 1700000002 (words [] 0) (Continue text_3 text_34 (Some text_53))
    ∷ line 1700000002 (words [] 1) (Continue text_3 text_34 (Some text_40))
    ∷ line 1700000002 (words (18446744073709551615 ∷ 1 ∷ 1 ∷ 1 ∷ 1 ∷ 1 ∷ 18446744073709551615 ∷ 18446744073709551615 ∷ 18446744073709551615
    ∷ 18446744073709551615 ∷ 3839326384878809849 ∷ 8376868322284023101 ∷ 1707531903809740630 ∷ 1 ∷ 18446744073709551615 ∷ 18446744073709551615
    ∷ 18446744073709551615 ∷ 6584880169686133832 ∷ 1954796296122121647 ∷ 3074781585769652112 ∷ 18446744073709551615 ∷ 18446744073709551615
    ∷ 18446744073709551615 ∷ 1 ∷ 1 ∷ 12499180622414114071 ∷ 18446744073709551615 ∷ 1 ∷ 1 ∷ 18446744073709551615 ∷ 1 ∷ 1 ∷ 1 ∷ 1 ∷ []) 9782094885465446622)
    (Continue text_3 text_34 (Some text_40))
    ∷ line 1700000002 (words [] 17152824795743778203) (Continue text_3 text_34 (Some []))
    ∷ line 1700000003 (words (1 ∷ 18296082998504677314 ∷ []) 0) (Continue text_3 text_34 (Some []))
    ∷ []

pub history_27 : outcomes rules_1 [] lines_27 ≡
    out (Pending text_53 (modes_of true false false None) text_52 (replicate 8 0) (replicate 32 0) 600 (Some text_3))
    (opened 1 text_3 true None 1702592000 ∷ terms 1 ((ask_of None ((Reference text_6) ∷ []) false) ∷ []) true false ∷ Door 1 text_53 1700000005
    ∷ pended 1 1700000600 1700001200 (modes_of true false false None) text_52 None None ∷ [])
    ∷ out (Error InvalidInteraction) (Wrong 1 ∷ [])
    ∷ out (Error InvalidInteraction) (Wrong 1 ∷ [])
    ∷ out (Error InvalidInteraction) (Wrong 1 ∷ [])
    ∷ out (Pending text_34 (modes_of true true false None) text_36 text_90 (replicate 32 0) 600 None)
    (terms 1 ((ask_of (Some text_31) ((object text_16 (Some (text_17 ∷ text_18 ∷ [])) (Some (text_19 ∷ [])) None None None text_20) ∷ []) false) ∷ []) true true
    ∷ Door 1 text_34 1700000006 ∷ pended 1 1700000601 1700001201 (modes_of true true false None) text_36 (Some text_90) None ∷ [])
    ∷ out (Error InvalidInteraction) (Wrong 1 ∷ [])
    ∷ out (Error InvalidInteraction) (Wrong 1 ∷ [])
    ∷ out (Error InvalidInteraction) (Wrong 1 ∷ [])
    ∷ out (Error InvalidInteraction) (Wrong 1 ∷ [])
    ∷ out (Error TooManyAttempts) (Wrong 1 ∷ Finalized 1 ∷ [])
    ∷ []
unfolding value_text encode_symbols code_text
history_27 = refl

-- ---- random history 28
abbrev lines_28 : List Line
lines_28 = line 1700000000 (words [] 0)
    (Begin text_3 (request_of ((ask_of None ((object text_16 (Some (text_17 ∷ [])) (Some (text_21 ∷ [])) None None None text_20) ∷ []) false) ∷ []) true false
    (Some text_3) false None None) (Some 1700003600))
    ∷ line 1700000000 (words (18446744073709551615 ∷ 18446744073709551615 ∷ 18446744073709551615 ∷ 1 ∷ 1 ∷ 18446744073709551615 ∷ 18446744073709551615 ∷ 1 ∷ 1
    ∷ 18446744073709551615 ∷ 1 ∷ 1 ∷ 18446744073709551615 ∷ 8068470625583512657 ∷ 1 ∷ 11667077893499300447 ∷ 3659041218956346556 ∷ 1 ∷ 18446744073709551615
    ∷ 7740895850012512646 ∷ 18446744073709551615 ∷ 11310848129025113153 ∷ 1 ∷ 1 ∷ 18446744073709551615 ∷ 1 ∷ 18446744073709551615 ∷ 18446744073709551615 ∷ 1
    ∷ 9701549164242330124 ∷ 13089230463552274465 ∷ 1 ∷ 1 ∷ 18446744073709551615 ∷ []) 0) (Revoke text_3 text_52)
    ∷ line 1700000003 (words [] 1) (Rotate text_3 text_52 None)
    ∷ line 1700000004 (words (1 ∷ 15645802664774419651 ∷ []) 25600000000) (Look text_14 text_34)
    ∷ line 1700000009 (words [] 0) (FindCode text_14 (replicate 8 0))
    ∷ line 1700000013 (words [] 25600000000) (Cancel text_7 text_34)
    ∷ line 1700000019 (words (18446744073709551615 ∷ 1 ∷ 11247548928775166059 ∷ 1 ∷ 18446744073709551615 ∷ 18395564672317768502 ∷ []) 0)
    (Continue text_3 text_34 None)
    ∷ line 1700000019 (words [] 0) (Modify text_3 text_59
    (request_of [] false true (Some text_3) true (Some text_27) (Some (modes_of false true false (Some (finish_by true text_32 text_33 false))))))
    ∷ line 1700000619 (words (18446744073709551615 ∷ 15761424087275972000 ∷ 1 ∷ 1 ∷ 18446744073709551615 ∷ 18446744073709551615 ∷ 6638435812179670131 ∷ 1
    ∷ 18446744073709551615 ∷ 1 ∷ 18446744073709551615 ∷ 1 ∷ 1 ∷ 12312359525555548026 ∷ 18446744073709551615 ∷ 6219847763558436767 ∷ 1 ∷ 1 ∷ 1
    ∷ 6782256824854262094 ∷ 18446744073709551615 ∷ 18446744073709551615 ∷ 18446744073709551615 ∷ 1 ∷ 3944298543328586104 ∷ 1 ∷ 1 ∷ 18446744073709551615
    ∷ 14722144392986625585 ∷ 11983105920511436593 ∷ 18446744073709551615 ∷ 15280396584092543182 ∷ 11516087822706206434 ∷ 18446744073709551615 ∷ []) 25600000001)
    (Continue text_3 text_45 None)
    ∷ []

pub history_28 : outcomes rules_1 [] lines_28 ≡
    out (Granted text_34 ((token_out text_53 text_52 None ((object text_16 (Some (text_17 ∷ [])) (Some (text_21 ∷ [])) None None None text_20) ∷ []) 3600 false)
    ∷ []) true None None) (opened 1 text_3 false None 1700003600
    ∷ terms 1 ((ask_of None ((object text_16 (Some (text_17 ∷ [])) (Some (text_21 ∷ [])) None None None text_20) ∷ []) false) ∷ []) true false
    ∷ Approved 1 [] ∷ issued 1 1 None ((object text_16 (Some (text_17 ∷ [])) (Some (text_21 ∷ [])) None None None text_20) ∷ []) false text_3 1700000000
    1700003600 text_53 text_52 ∷ Door 1 text_34 1700000005 ∷ [])
    ∷ out Done (Retired 1 ByRevocation ∷ [])
    ∷ out (Error InvalidRotation) []
    ∷ out (Error UnknownInteraction) []
    ∷ out (Error UnknownInteraction) []
    ∷ out (Error InvalidClient) []
    ∷ out (Continuing text_59) (Door 1 text_59 1700000024 ∷ [])
    ∷ out (Pending text_45 (modes_of false true false (Some (finish_by true text_32 text_33 false))) text_47 text_35 text_48 600 None)
    (Retired 1 ByModification ∷ terms 1 [] false true ∷ Door 1 text_45 1700000024
    ∷ pended 1 1700000619 1700001219 (modes_of false true false (Some (finish_by true text_32 text_33 false))) text_47 (Some text_35) (Some text_48) ∷ [])
    ∷ out (Error InvalidInteraction) (Finalized 1 ∷ [])
    ∷ []
unfolding value_text encode_symbols code_text
history_28 = refl

pub tokens_28 : told rules_1 lines_28 (asked 1700003600 (text_53 ∷ []) ∷ asked 1700003599 (text_53 ∷ []) ∷ asked 1700000619 (text_53 ∷ []) ∷ [])
    ≡ (false ∷ false ∷ false ∷ false ∷ false ∷ false ∷ [])
unfolding value_text encode_symbols code_text
tokens_28 = refl

-- ---- random history 29
abbrev lines_29 : List Line
lines_29 = line 1700000005 (words [] 25600000001)
    (Begin text_3 (request_of ((ask_of None ((Reference text_5) ∷ []) true) ∷ []) true false (Some text_3) false (Some text_27) None) None)
    ∷ line 1700000010 (words [] 0) (Introspect text_9 text_53 None None)
    ∷ line 1700000010 (words [] 25599999999) (Continue text_3 text_34 None)
    ∷ line 1700000016 (words [] 2) (Modify text_9 text_36
    (request_of ((ask_of (Some text_31) ((Reference text_5) ∷ (Reference text_13) ∷ []) true)
    ∷ (ask_of (Some text_41) ((object text_5 None None (Some (text_24 ∷ [])) (Some (text_25 ∷ [])) None text_20) ∷ []) false) ∷ []) false false (Some text_3)
    false None (Some (modes_of true true false None))))
    ∷ line 1700000016 (words [] 0) (Rotate text_3 text_52 None)
    ∷ line 1700000021 (words [] 0) (Rotate text_3 text_47 (Some text_7))
    ∷ line 1700000022 (words [] 2) (Modify text_3 text_36
    (request_of ((ask_of (Some text_31) ((Reference text_5) ∷ []) false)
    ∷ (ask_of (Some text_41) ((Reference text_5) ∷ (Reference text_5) ∷ (Reference text_6) ∷ []) false) ∷ (ask_of (Some text_66) ((Reference text_6) ∷ []) true)
    ∷ (ask_of (Some text_67) ((Reference text_5) ∷ []) false) ∷ []) false false (Some text_3) false (Some text_27)
    (Some (modes_of true false false (Some (finish_by false text_64 text_33 false))))))
    ∷ line 1700000023 (words (18446744073709551615 ∷ 17397170378457863131 ∷ []) 0) (Decide text_14 (decide_of text_49 Grant None (Some text_56)))
    ∷ []

pub history_29 : outcomes rules_0 [] lines_29 ≡
    out (Granted text_34 ((token_out text_53 text_52 None ((Reference text_5) ∷ []) 3600 true) ∷ []) true None None)
    (opened 1 text_3 false (Some text_27) 1702592005 ∷ terms 1 ((ask_of None ((Reference text_5) ∷ []) true) ∷ []) true false ∷ Approved 1 []
    ∷ issued 1 1 None ((Reference text_5) ∷ []) true text_3 1700000005 1700003605 text_53 text_52 ∷ Door 1 text_34 1700000010 ∷ [])
    ∷ out (Active ((Reference text_5) ∷ []) 1700000005 1700003605 text_3 true) []
    ∷ out (Continuing text_36) (Door 1 text_36 1700000015 ∷ [])
    ∷ out (Error InvalidClient) []
    ∷ out (Rotated (token_out text_45 text_47 None ((Reference text_5) ∷ []) 3600 true))
    (Retired 1 ByRotation ∷ issued 5 1 None ((Reference text_5) ∷ []) true text_3 1700000016 1700003616 text_45 text_47 ∷ [])
    ∷ out (Error InvalidRotation) []
    ∷ out (Pending text_48 (modes_of true false false (Some (finish_by false text_64 text_33 false))) text_49 (replicate 8 0) text_42 600 None)
    (Retired 5 ByModification ∷ terms 1
    ((ask_of (Some text_31) ((Reference text_5) ∷ []) false) ∷ (ask_of (Some text_41) ((Reference text_5) ∷ (Reference text_5) ∷ (Reference text_6) ∷ []) false)
    ∷ (ask_of (Some text_66) ((Reference text_6) ∷ []) true) ∷ (ask_of (Some text_67) ((Reference text_5) ∷ []) false) ∷ []) false false
    ∷ Door 1 text_48 1700000027 ∷ pended 1 1700000622 1700001222 (modes_of true false false (Some (finish_by false text_64 text_33 false))) text_49 None
    (Some text_42) ∷ [])
    ∷ out (Decided (Some (finish_out (finish_by false text_64 text_33 false) text_42 text_91)))
    (decided 1 Grant (Some text_91)
    ((Reference text_5) ∷ (Reference text_5) ∷ (Reference text_5) ∷ (Reference text_6) ∷ (Reference text_6) ∷ (Reference text_5) ∷ []) (Some text_56) ∷ [])
    ∷ []
unfolding value_text encode_symbols code_text
history_29 = refl

pub tokens_29 : told rules_0 lines_29
    (asked 1700000027 (text_53 ∷ text_45 ∷ []) ∷ asked 1700001222 (text_53 ∷ text_45 ∷ []) ∷ asked 1700000026 (text_53 ∷ text_45 ∷ []) ∷ [])
    ≡ (false ∷ false ∷ false ∷ false ∷ false ∷ false ∷ false ∷ false ∷ false ∷ false ∷ false ∷ false ∷ [])
unfolding value_text encode_symbols code_text
tokens_29 = refl

-- ---- random history 30
abbrev lines_30 : List Line
lines_30 = line 1000 (words [] 18446744073709551615)
    (Begin text_3 (request_of ((ask_of None ((object text_16 (Some (text_17 ∷ [])) (Some (text_21 ∷ [])) None None None text_20) ∷ []) true) ∷ []) true false
    (Some text_3) false None None) (Some 1003))
    ∷ line 1004 (words [] 0) (Revoke text_3 text_52)
    ∷ line 1010 (words (18446744073709551615 ∷ 18446744073709551615 ∷ []) 0) (Introspect text_3 text_53 (Some Bearer) None)
    ∷ line 1011 (words [] 0) (Begin text_3 (request_of [] false true (Some text_3) false (Some text_27) (Some (modes_of true true false None))) None)
    ∷ line 1611 (words [] 5218019482785681631)
    (Modify text_3 text_36 (request_of
    ((ask_of (Some text_31) ((object text_16 (Some (text_17 ∷ text_18 ∷ [])) (Some (text_19 ∷ [])) None None None text_20) ∷ []) false)
    ∷ (ask_of (Some text_41) ((Reference text_5) ∷ (object text_16 (Some (text_17 ∷ text_18 ∷ [])) (Some (text_19 ∷ [])) None None None text_20) ∷ []) false)
    ∷ (ask_of (Some text_66) ((object text_16 (Some []) (Some (text_19 ∷ [])) None None None text_20) ∷ []) true) ∷ []) false false (Some text_3) false
    (Some text_27) (Some (modes_of false false false None))))
    ∷ line 1617 (words (18446744073709551615 ∷ 1 ∷ 18446744073709551615 ∷ 18446744073709551615 ∷ 16184526329937399289 ∷ 18446744073709551615 ∷ [])
    7031047583299752270) (Introspect text_9 text_53 (Some Bearer)
    (Some ((Reference text_6) ∷ (object text_16 (Some (text_17 ∷ text_18 ∷ [])) (Some (text_19 ∷ [])) None None None text_20) ∷ [])))
    ∷ line 1619 (words [] 25600000000) (Continue text_3 text_51 None)
    ∷ line 1619 (words [] 25599999999)
    (Modify text_3 text_74 (request_of
    ((ask_of (Some text_31) ((object text_16 (Some (text_17 ∷ [])) (Some (text_21 ∷ [])) None None None text_20)
    ∷ (object text_16 (Some (text_17 ∷ [])) (Some (text_21 ∷ [])) None None None text_20)
    ∷ (object text_16 (Some (text_18 ∷ [])) (Some (text_21 ∷ [])) None None None text_20) ∷ []) false)
    ∷ (ask_of (Some text_41) ((object text_16 (Some (text_17 ∷ [])) (Some (text_21 ∷ [])) None None None text_20) ∷ []) false) ∷ []) false false (Some text_3)
    false None None))
    ∷ []

pub history_30 : outcomes rules_1 [] lines_30 ≡
    out (Granted text_34 ((token_out text_53 text_52 None ((object text_16 (Some (text_17 ∷ [])) (Some (text_21 ∷ [])) None None None text_20) ∷ []) 3 true)
    ∷ []) true None None) (opened 1 text_3 false None 1003
    ∷ terms 1 ((ask_of None ((object text_16 (Some (text_17 ∷ [])) (Some (text_21 ∷ [])) None None None text_20) ∷ []) true) ∷ []) true false
    ∷ Approved 1 [] ∷ issued 1 1 None ((object text_16 (Some (text_17 ∷ [])) (Some (text_21 ∷ [])) None None None text_20) ∷ []) true text_3 1000 1003
    text_53 text_52 ∷ Door 1 text_34 1005 ∷ [])
    ∷ out (Error InvalidRequest) []
    ∷ out Inactive []
    ∷ out (Pending text_36 (modes_of true true false None) text_45 text_35 (replicate 32 0) 600 None)
    (opened 2 text_3 false (Some text_27) 2593011 ∷ terms 2 [] false true ∷ Door 2 text_36 1016
    ∷ pended 2 1611 2211 (modes_of true true false None) text_45 (Some text_35) None ∷ [])
    ∷ out (Granted text_51 ((token_out text_47 text_48 (Some text_31)
    ((object text_16 (Some (text_17 ∷ text_18 ∷ [])) (Some (text_19 ∷ [])) None None None text_20) ∷ []) 3600 false)
    ∷ (token_out text_49 text_42 (Some text_41)
    ((Reference text_5) ∷ (object text_16 (Some (text_17 ∷ text_18 ∷ [])) (Some (text_19 ∷ [])) None None None text_20) ∷ []) 3600 false)
    ∷ (token_out text_46 text_50 (Some text_66) ((object text_16 (Some []) (Some (text_19 ∷ [])) None None None text_20) ∷ []) 3600 true) ∷ []) false None None)
    (terms 2 ((ask_of (Some text_31) ((object text_16 (Some (text_17 ∷ text_18 ∷ [])) (Some (text_19 ∷ [])) None None None text_20) ∷ []) false)
    ∷ (ask_of (Some text_41) ((Reference text_5) ∷ (object text_16 (Some (text_17 ∷ text_18 ∷ [])) (Some (text_19 ∷ [])) None None None text_20) ∷ []) false)
    ∷ (ask_of (Some text_66) ((object text_16 (Some []) (Some (text_19 ∷ [])) None None None text_20) ∷ []) true) ∷ []) false false ∷ Approved 2 []
    ∷ issued 6 2 (Some text_31) ((object text_16 (Some (text_17 ∷ text_18 ∷ [])) (Some (text_19 ∷ [])) None None None text_20) ∷ []) false text_3 1611 5211
    text_47 text_48 ∷ issued 8 2 (Some text_41)
    ((Reference text_5) ∷ (object text_16 (Some (text_17 ∷ text_18 ∷ [])) (Some (text_19 ∷ [])) None None None text_20) ∷ []) false text_3 1611 5211 text_49
    text_42 ∷ issued 10 2 (Some text_66) ((object text_16 (Some []) (Some (text_19 ∷ [])) None None None text_20) ∷ []) true text_3 1611 5211 text_46 text_50
    ∷ Door 2 text_51 1616 ∷ [])
    ∷ out (Error InvalidAccess) []
    ∷ out (Continuing text_74) (Door 2 text_74 1624 ∷ [])
    ∷ out (Error RequestDenied) []
    ∷ []
unfolding value_text encode_symbols code_text
history_30 = refl

pub tokens_30 : told rules_1 lines_30
    (asked 5211 (text_53 ∷ text_47 ∷ text_49 ∷ text_46 ∷ []) ∷ asked 5210 (text_53 ∷ text_47 ∷ text_49 ∷ text_46 ∷ [])
    ∷ asked 1624 (text_53 ∷ text_47 ∷ text_49 ∷ text_46 ∷ []) ∷ [])
    ≡ (false ∷ false ∷ false ∷ false ∷ false ∷ false ∷ false ∷ false ∷ false ∷ false ∷ true ∷ true ∷ true ∷ true ∷ true ∷ true ∷ false ∷ false ∷ true ∷ true
    ∷ true ∷ true ∷ true ∷ true ∷ [])
unfolding value_text encode_symbols code_text
tokens_30 = refl

-- ---- random history 31
abbrev lines_31 : List Line
lines_31 = line 1000 (words [] 25600000000)
    (Begin text_3 (request_of ((ask_of None ((object text_16 (Some (text_17 ∷ [])) (Some (text_21 ∷ [])) None None None text_20) ∷ []) true) ∷ []) false true
    (Some text_3) false None (Some (modes_of true true true None))) None)
    ∷ line 1600 (words [] 1) Lapse
    ∷ line 1599 (words (1 ∷ 1 ∷ 18446744073709551615 ∷ 1 ∷ []) 0) (Look text_14 text_52)
    ∷ line 1598 (words [] 0) (Look text_14 text_52)
    ∷ line 1590 (words (7183579612771246079 ∷ 1 ∷ 1008305873604254731 ∷ 2270919791793265372 ∷ 18446744073709551615 ∷ 18446744073709551615 ∷ []) 1)
    (Begin text_3 (request_of ((ask_of (Some text_31)
    ((object text_16 (Some (text_17 ∷ [])) (Some (text_19 ∷ [])) None None (Some text_22) text_20)
    ∷ (object text_16 (Some (text_17 ∷ [])) (Some (text_21 ∷ [])) None None None text_20) ∷ (Reference text_6) ∷ []) false)
    ∷ (ask_of (Some text_41) ((object text_16 (Some (text_17 ∷ [])) (Some (text_21 ∷ [])) None None None text_20) ∷ []) false)
    ∷ (ask_of (Some text_66) ((Reference text_5) ∷ []) false) ∷ []) false false (Some text_3) false None (Some (modes_of true true false None))) (Some 1605))
    ∷ line 1603 (words [] 0) (Continue text_3 text_92 None)
    ∷ line 1605 (words (18446744073709551615 ∷ 12857555998943098089 ∷ 18446744073709551615 ∷ 1 ∷ 18446744073709551615 ∷ 18066134958133875985
    ∷ 13524144636235567036 ∷ 1 ∷ 1 ∷ 13583707299128110699 ∷ 1 ∷ 18443448321595615368 ∷ 18446744073709551615 ∷ 1 ∷ 11373014580417819828 ∷ 1
    ∷ 16797756720270942507 ∷ 16930207790004832895 ∷ 16072028080986894369 ∷ 18446744073709551615 ∷ 18446744073709551615 ∷ 1 ∷ 1 ∷ 949455049087494283
    ∷ 17230986490849845238 ∷ 1 ∷ 18446744073709551615 ∷ 14464457662909895713 ∷ 18446744073709551615 ∷ 3104319194135358605 ∷ 18446744073709551615
    ∷ 9518662105589698015 ∷ 14472957647490634262 ∷ 18446744073709551615 ∷ []) 2) (FindCode text_14 text_44)
    ∷ []

pub history_31 : outcomes rules_1 [] lines_31 ≡
    out (Pending text_53 (modes_of true true true None) text_52 text_35 (replicate 32 0) 600 None)
    (opened 1 text_3 false None 2593000
    ∷ terms 1 ((ask_of None ((object text_16 (Some (text_17 ∷ [])) (Some (text_21 ∷ [])) None None None text_20) ∷ []) true) ∷ []) false true
    ∷ Door 1 text_53 1005 ∷ pended 1 1600 2200 (modes_of true true true None) text_52 (Some text_35) None ∷ [])
    ∷ out Lapsed []
    ∷ out (Error UnknownInteraction) []
    ∷ out (Error UnknownInteraction) []
    ∷ out (Pending text_92 (modes_of true true false None) text_93 text_44 (replicate 32 0) 5 None)
    (opened 2 text_3 false None 1605
    ∷ terms 2 ((ask_of (Some text_31)
    ((object text_16 (Some (text_17 ∷ [])) (Some (text_19 ∷ [])) None None (Some text_22) text_20)
    ∷ (object text_16 (Some (text_17 ∷ [])) (Some (text_21 ∷ [])) None None None text_20) ∷ (Reference text_6) ∷ []) false)
    ∷ (ask_of (Some text_41) ((object text_16 (Some (text_17 ∷ [])) (Some (text_21 ∷ [])) None None None text_20) ∷ []) false)
    ∷ (ask_of (Some text_66) ((Reference text_5) ∷ []) false) ∷ []) false false ∷ Door 2 text_92 1605
    ∷ pended 2 1605 2800 (modes_of true true false None) text_93 (Some text_44) None ∷ [])
    ∷ out (Error TooFast) []
    ∷ out (Error UnknownInteraction) []
    ∷ []
unfolding value_text encode_symbols code_text
history_31 = refl

-- ---- random history 32
abbrev lines_32 : List Line
lines_32 = line 5 (words [] 25600000000)
    (Begin text_3 (request_of ((ask_of None ((Reference text_5) ∷ []) true) ∷ []) true false (Some text_3) false (Some text_27) None) None)
    ∷ line 2592005 (words [] 0) (Continue text_3 text_34 None)
    ∷ line 2592009 (words [] 0) (Begin text_3
    (request_of ((ask_of None ((Reference text_5) ∷ []) false) ∷ []) true false (Some text_3) false (Some text_27)
    (Some (modes_of false true false (Some (finish_by true text_32 text_60 false))))) None)
    ∷ line 2592010 (words [] 2) (Begin text_3
    (request_of ((ask_of None ((Reference text_6) ∷ []) false) ∷ []) true false (Some text_3) true (Some text_27) None) None)
    ∷ line 2592014 (words [] 0) (Introspect text_30 text_36 None None)
    ∷ line 2592015 (words [] 25599999999) (Revoke text_3 text_52)
    ∷ line 2592015 (words [] 2) Lapse
    ∷ []

pub history_32 : outcomes rules_0 [] lines_32 ≡
    out (Granted text_34 ((token_out text_53 text_52 None ((Reference text_5) ∷ []) 3600 true) ∷ []) true None None)
    (opened 1 text_3 false (Some text_27) 2592005 ∷ terms 1 ((ask_of None ((Reference text_5) ∷ []) true) ∷ []) true false ∷ Approved 1 []
    ∷ issued 1 1 None ((Reference text_5) ∷ []) true text_3 5 3605 text_53 text_52 ∷ Door 1 text_34 10 ∷ [])
    ∷ out (Error InvalidContinuation) []
    ∷ out (Granted text_47 ((token_out text_36 text_45 None ((Reference text_5) ∷ []) 3600 false) ∷ []) true None None)
    (opened 2 text_3 false (Some text_27) 5184009 ∷ terms 2 ((ask_of None ((Reference text_5) ∷ []) false) ∷ []) true false ∷ Approved 2 []
    ∷ issued 4 2 None ((Reference text_5) ∷ []) false text_3 2592009 2595609 text_36 text_45 ∷ Door 2 text_47 2592014 ∷ [])
    ∷ out (Error RequestDenied) []
    ∷ out Inactive []
    ∷ out (Error InvalidRequest) []
    ∷ out Lapsed []
    ∷ []
unfolding value_text encode_symbols code_text
history_32 = refl

pub tokens_32 : told rules_0 lines_32
    (asked 2592015 (text_53 ∷ text_36 ∷ []) ∷ asked 5184008 (text_53 ∷ text_36 ∷ []) ∷ asked 2595608 (text_53 ∷ text_36 ∷ []) ∷ [])
    ≡ (false ∷ false ∷ true ∷ true ∷ false ∷ false ∷ false ∷ false ∷ false ∷ false ∷ true ∷ true ∷ [])
unfolding value_text encode_symbols code_text
tokens_32 = refl

-- ---- random history 33
abbrev lines_33 : List Line
lines_33 = line 0 (words (14627781736492949028 ∷ 18446744073709551615 ∷ []) 0)
    (Begin text_3 (request_of ((ask_of None ((object text_16 (Some (text_17 ∷ [])) (Some (text_19 ∷ [])) None None (Some text_22) text_20) ∷ []) false) ∷ [])
    true false (Some text_3) false (Some text_27) (Some (modes_of false true false None))) (Some 600))
    ∷ line 1200 (words [] 1) (Look text_14 text_52)
    ∷ line 1200 (words [] 0) (Continue text_3 text_94 (Some text_52))
    ∷ line 1200 (words [] 10703226336440599249)
    (Begin text_3 (request_of ((ask_of None
    ((Reference text_6) ∷ (object text_5 None None (Some (text_23 ∷ text_24 ∷ [])) (Some (text_25 ∷ [])) None text_20) ∷ []) false) ∷ []) true false
    (Some text_3) false (Some text_27) (Some (modes_of false true false (Some (finish_by false text_32 text_60 true))))) None)
    ∷ line 2593200 (words (11305200445360158645 ∷ 18446744073709551615 ∷ 18446744073709551615 ∷ 11956299548261223308 ∷ []) 25600000001) (Revoke text_3 [])
    ∷ line 2593200 (words (4023124823468965136 ∷ 672641035826414674 ∷ 18446744073709551615 ∷ 2051052983184467632 ∷ 8314728552950581748 ∷ 8567477757588070547
    ∷ []) 0) (Begin text_3 (request_of
    ((ask_of (Some text_31) ((object text_16 (Some (text_17 ∷ [])) (Some (text_21 ∷ [])) None None None text_20)
    ∷ (object text_5 None None (Some (text_23 ∷ text_24 ∷ [])) (Some (text_25 ∷ [])) None text_20) ∷ []) false)
    ∷ (ask_of (Some text_41) ((object text_16 (Some (text_18 ∷ [])) (Some (text_21 ∷ [])) None None None text_20) ∷ []) false) ∷ []) false false (Some text_3)
    false (Some text_27) (Some (modes_of false false false (Some (finish_by true text_64 text_33 false))))) (Some 2593800))
    ∷ line 2593203 (words [] 17486495364304765477)
    (Begin text_3 (request_of ((ask_of (Some text_31) ((object text_16 (Some (text_17 ∷ text_18 ∷ [])) (Some (text_19 ∷ [])) None None None text_20) ∷ [])
    false) ∷ []) false false (Some text_3) true None (Some (modes_of false false true None))) None)
    ∷ line 2593203 (words [] 0) (Rotate text_3 text_48 None)
    ∷ line 2593206 (words [] 0) (Revoke text_3 text_46)
    ∷ []

pub history_33 : outcomes rules_1 [] lines_33 ≡
    out (Pending text_94 (modes_of false true false None) text_52 text_35 (replicate 32 0) 600 None)
    (opened 1 text_3 false (Some text_27) 600
    ∷ terms 1 ((ask_of None ((object text_16 (Some (text_17 ∷ [])) (Some (text_19 ∷ [])) None None (Some text_22) text_20) ∷ []) false) ∷ []) true false
    ∷ Door 1 text_94 5 ∷ pended 1 600 1200 (modes_of false true false None) text_52 (Some text_35) None ∷ [])
    ∷ out (Error UnknownInteraction) []
    ∷ out (Error InvalidContinuation) []
    ∷ out (Pending text_34 (modes_of false true false (Some (finish_by false text_32 text_60 true))) text_36 text_95 text_45 600 None)
    (opened 2 text_3 false (Some text_27) 2593200
    ∷ terms 2 ((ask_of None ((Reference text_6) ∷ (object text_5 None None (Some (text_23 ∷ text_24 ∷ [])) (Some (text_25 ∷ [])) None text_20) ∷ []) false)
    ∷ []) true false ∷ Door 2 text_34 1205
    ∷ pended 2 1800 2400 (modes_of false true false (Some (finish_by false text_32 text_60 true))) text_36 (Some text_95) (Some text_45) ∷ [])
    ∷ out (Error InvalidRequest) []
    ∷ out (Error RequestDenied) []
    ∷ out (Granted text_49 ((token_out text_47 text_48 (Some text_31)
    ((object text_16 (Some (text_17 ∷ text_18 ∷ [])) (Some (text_19 ∷ [])) None None None text_20) ∷ []) 3600 false) ∷ []) false None (Some text_3))
    (opened 3 text_3 true None 5185203
    ∷ terms 3 ((ask_of (Some text_31) ((object text_16 (Some (text_17 ∷ text_18 ∷ [])) (Some (text_19 ∷ [])) None None None text_20) ∷ []) false) ∷ []) false
    false ∷ Approved 3 [] ∷ issued 6 3 (Some text_31) ((object text_16 (Some (text_17 ∷ text_18 ∷ [])) (Some (text_19 ∷ [])) None None None text_20) ∷ []) false
    text_3 2593203 2596803 text_47 text_48 ∷ Door 3 text_49 2593208 ∷ [])
    ∷ out (Rotated (token_out text_42 text_46 (Some text_31)
    ((object text_16 (Some (text_17 ∷ text_18 ∷ [])) (Some (text_19 ∷ [])) None None None text_20) ∷ []) 3600 false))
    (Retired 6 ByRotation ∷ issued 9 3 (Some text_31) ((object text_16 (Some (text_17 ∷ text_18 ∷ [])) (Some (text_19 ∷ [])) None None None text_20) ∷ []) false
    text_3 2593203 2596803 text_42 text_46 ∷ [])
    ∷ out Done (Retired 9 ByRevocation ∷ [])
    ∷ []
unfolding value_text encode_symbols code_text
history_33 = refl

pub tokens_33 : told rules_1 lines_33
    (asked 2596803 (text_47 ∷ text_42 ∷ []) ∷ asked 2596802 (text_47 ∷ text_42 ∷ []) ∷ asked 2593207 (text_47 ∷ text_42 ∷ []) ∷ [])
    ≡ (false ∷ false ∷ false ∷ false ∷ false ∷ false ∷ false ∷ false ∷ false ∷ false ∷ false ∷ false ∷ [])
unfolding value_text encode_symbols code_text
tokens_33 = refl

-- ---- random history 34
abbrev lines_34 : List Line
lines_34 = line 1002 (words (5095309531097254090 ∷ 3959168819985563520 ∷ 11027305792814136866 ∷ 1 ∷ 18446744073709551615 ∷ 18446744073709551615 ∷ []) 0)
    (Begin text_3 (request_of ((ask_of None ((object text_16 (Some (text_17 ∷ text_18 ∷ [])) (Some (text_19 ∷ [])) None None None text_20) ∷ []) false) ∷ [])
    true false (Some text_3) false None None) None)
    ∷ line 1002 (words [] 0) (Rotate text_3 text_96 (Some text_7))
    ∷ line 1008 (words (18446744073709551615 ∷ 18446744073709551615 ∷ []) 1) (Continue text_3 text_39 (Some text_40))
    ∷ line 1012 (words [] 499635462286406592) (Cancel text_7 text_39)
    ∷ []

pub history_34 : outcomes rules_2 [] lines_34 ≡
    out (Granted text_39 ((token_out text_97 text_96 None ((object text_16 (Some (text_17 ∷ text_18 ∷ [])) (Some (text_19 ∷ [])) None None None text_20) ∷ [])
    3600 false) ∷ []) true None None)
    (opened 1 text_3 false None 2593002
    ∷ terms 1 ((ask_of None ((object text_16 (Some (text_17 ∷ text_18 ∷ [])) (Some (text_19 ∷ [])) None None None text_20) ∷ []) false) ∷ []) true false
    ∷ Approved 1 [] ∷ issued 1 1 None ((object text_16 (Some (text_17 ∷ text_18 ∷ [])) (Some (text_19 ∷ [])) None None None text_20) ∷ []) false text_3 1002
    4602 text_97 text_96 ∷ Door 1 text_39 1007 ∷ [])
    ∷ out (Rotated (token_out text_36 text_45 None ((object text_16 (Some (text_17 ∷ text_18 ∷ [])) (Some (text_19 ∷ [])) None None None text_20) ∷ []) 3600
    false)) (Retired 1 ByRotation ∷ issued 4 1 None ((object text_16 (Some (text_17 ∷ text_18 ∷ [])) (Some (text_19 ∷ [])) None None None text_20) ∷ []) false
    text_7 1002 4602 text_36 text_45 ∷ [])
    ∷ out (Error TooManyAttempts) (Finalized 1 ∷ [])
    ∷ out (Error InvalidContinuation) []
    ∷ []
unfolding value_text encode_symbols code_text
history_34 = refl

pub tokens_34 : told rules_2 lines_34 (asked 1012 (text_97 ∷ []) ∷ asked 4602 (text_97 ∷ []) ∷ asked 4601 (text_97 ∷ []) ∷ [])
    ≡ (false ∷ false ∷ false ∷ false ∷ false ∷ false ∷ [])
unfolding value_text encode_symbols code_text
tokens_34 = refl

-- ---- random history 35
abbrev lines_35 : List Line
lines_35 = line 1000 (words [] 0)
    (Begin text_3 (request_of ((ask_of (Some text_31) ((Reference text_5) ∷ []) false)
    ∷ (ask_of (Some text_41) ((Reference text_6) ∷ (Reference text_6) ∷ []) true) ∷ []) false true (Some text_3) false None
    (Some (modes_of true true false (Some (finish_by true text_32 text_60 false))))) None)
    ∷ line 1000 (words (1601618608732795783 ∷ 18446744073709551615 ∷ []) 0)
    (Begin text_3 (request_of ((ask_of (Some text_31) ((Reference text_5) ∷ (Reference text_6) ∷ []) false) ∷ []) true true (Some text_3) false None
    (Some (modes_of false true true (Some (finish_by false text_32 text_33 true))))) None)
    ∷ line 1001 (words [] 0) (Begin text_3
    (request_of ((ask_of (Some text_31) ((Reference text_5) ∷ []) false) ∷ (ask_of (Some text_41) ((Reference text_6) ∷ []) false) ∷ []) false false
    (Some text_3) false None (Some (modes_of false true true None))) (Some 4601))
    ∷ line 1005 (words [] 0) (Look text_14 text_45)
    ∷ line 1006 (words [] 0) (Modify text_3 text_98
    (request_of ((ask_of (Some text_31) ((Reference text_6) ∷ (Reference text_6) ∷ (Reference text_5) ∷ []) true)
    ∷ (ask_of (Some text_41) ((Reference text_5) ∷ []) false) ∷ []) false false (Some text_3) false (Some text_27) (Some (modes_of false false true None))))
    ∷ line 1011 (words [] 17115193584312189595)
    (Modify text_3 text_42 (request_of ((ask_of (Some text_31) ((Reference text_6) ∷ []) false) ∷ []) false false (Some text_3) false (Some text_27)
    (Some (modes_of false false true (Some (finish_by false text_64 text_33 true))))))
    ∷ line 2199 (words (18446744073709551615 ∷ 9856420166701043143 ∷ 1 ∷ 10827213478452678166 ∷ 9693476557262424827 ∷ 12787347109232557123
    ∷ 17379963321834467812 ∷ 18446744073709551615 ∷ 18446744073709551615 ∷ 1 ∷ 1 ∷ 11423535398874010003 ∷ 18446744073709551615 ∷ 18446744073709551615 ∷ 1 ∷ 1
    ∷ 12667079189533378455 ∷ 18446744073709551615 ∷ 18446744073709551615 ∷ 18446744073709551615 ∷ 18446744073709551615 ∷ 11349375824035393327
    ∷ 18446744073709551615 ∷ 1 ∷ 18446744073709551615 ∷ 18446744073709551615 ∷ 609820347669305066 ∷ 18446744073709551615 ∷ 8370264166115985580
    ∷ 18446744073709551615 ∷ 8970170231976541656 ∷ 1 ∷ 18446744073709551615 ∷ 6171022521765221669 ∷ []) 25600000001) (Continue text_3 text_48 None)
    ∷ line 2198 (words [] 0) (Begin text_3
    (request_of ((ask_of (Some text_31) ((Reference text_5) ∷ (Reference text_5) ∷ []) false) ∷ []) false false (Some text_3) false None
    (Some (modes_of true true false None))) None)
    ∷ line 2204 (words [] 18446744073709551615) (Continue text_3 text_53 None)
    ∷ []

pub history_35 : outcomes rules_0 [] lines_35 ≡
    out (Pending text_53 (modes_of true true false (Some (finish_by true text_32 text_60 false))) text_52 text_35 text_34 600 None)
    (opened 1 text_3 false None 2593000
    ∷ terms 1 ((ask_of (Some text_31) ((Reference text_5) ∷ []) false) ∷ (ask_of (Some text_41) ((Reference text_6) ∷ (Reference text_6) ∷ []) true) ∷ [])
    false true ∷ Door 1 text_53 1005
    ∷ pended 1 1600 2200 (modes_of true true false (Some (finish_by true text_32 text_60 false))) text_52 (Some text_35) (Some text_34) ∷ [])
    ∷ out (Pending text_98 (modes_of false true true (Some (finish_by false text_32 text_33 true))) text_45 text_44 text_47 600 None)
    (opened 2 text_3 false None 2593000 ∷ terms 2 ((ask_of (Some text_31) ((Reference text_5) ∷ (Reference text_6) ∷ []) false) ∷ []) true true
    ∷ Door 2 text_98 1005 ∷ pended 2 1600 2200 (modes_of false true true (Some (finish_by false text_32 text_33 true))) text_45 (Some text_44) (Some text_47)
    ∷ [])
    ∷ out (Pending text_48 (modes_of false true true None) text_49 text_90 (replicate 32 0) 600 None)
    (opened 3 text_3 false None 4601
    ∷ terms 3 ((ask_of (Some text_31) ((Reference text_5) ∷ []) false) ∷ (ask_of (Some text_41) ((Reference text_6) ∷ []) false) ∷ []) false false
    ∷ Door 3 text_48 1006 ∷ pended 3 1601 2201 (modes_of false true true None) text_49 (Some text_90) None ∷ [])
    ∷ out (Shown ((ask_of (Some text_31) ((Reference text_5) ∷ (Reference text_6) ∷ []) false) ∷ []) text_3 595 true None) []
    ∷ out (Pending text_42 (modes_of false false true None) text_46 text_99 (replicate 32 0) 600 None)
    (terms 2 ((ask_of (Some text_31) ((Reference text_6) ∷ (Reference text_6) ∷ (Reference text_5) ∷ []) true)
    ∷ (ask_of (Some text_41) ((Reference text_5) ∷ []) false) ∷ []) false false ∷ Door 2 text_42 1011
    ∷ pended 2 1606 2206 (modes_of false false true None) text_46 (Some text_99) None ∷ [])
    ∷ out (Pending text_50 (modes_of false false true (Some (finish_by false text_64 text_33 true))) text_51 text_100 text_74 600 None)
    (terms 2 ((ask_of (Some text_31) ((Reference text_6) ∷ []) false) ∷ []) false false ∷ Door 2 text_50 1016
    ∷ pended 2 1611 2211 (modes_of false false true (Some (finish_by false text_64 text_33 true))) text_51 (Some text_100) (Some text_74) ∷ [])
    ∷ out (Error InvalidInteraction) (Finalized 3 ∷ [])
    ∷ out (Granted text_101 ((token_out text_76 text_75 (Some text_31) ((Reference text_5) ∷ (Reference text_5) ∷ []) 3600 false) ∷ []) false None None)
    (opened 4 text_3 false None 2594199 ∷ terms 4 ((ask_of (Some text_31) ((Reference text_5) ∷ (Reference text_5) ∷ []) false) ∷ []) false false
    ∷ Approved 4 [] ∷ issued 14 4 (Some text_31) ((Reference text_5) ∷ (Reference text_5) ∷ []) false text_3 2199 5799 text_76 text_75 ∷ Door 4 text_101 2204
    ∷ [])
    ∷ out (Error InvalidContinuation) []
    ∷ []
unfolding value_text encode_symbols code_text
history_35 = refl

pub tokens_35 : told rules_0 lines_35 (asked 2211 (text_76 ∷ []) ∷ asked 2205 (text_76 ∷ []) ∷ asked 2592999 (text_76 ∷ []) ∷ [])
    ≡ (true ∷ true ∷ true ∷ true ∷ false ∷ false ∷ [])
unfolding value_text encode_symbols code_text
tokens_35 = refl

-- ---- random history 36
abbrev lines_36 : List Line
lines_36 = line 1700000001 (words [] 25600000000)
    (Begin text_3 (request_of ((ask_of None
    ((object text_5 None None (Some (text_23 ∷ text_24 ∷ [])) (Some (text_25 ∷ [])) None text_20) ∷ (Reference text_5)
    ∷ (object text_16 (Some (text_17 ∷ [])) (Some (text_21 ∷ [])) None None None text_20) ∷ []) false) ∷ []) false false (Some text_3) false None
    (Some (modes_of true true false None))) None)
    ∷ line 1700000002 (words [] 10587807720145472383) (Decide text_14 (decide_of text_52 Grant None None))
    ∷ line 1700000007 (words (18446744073709551615 ∷ 18445667814293853965 ∷ []) 0) (Continue text_3 text_40 None)
    ∷ line 1699999997 (words [] 25600000001)
    (Introspect text_9 text_53 (Some Httpsig) (Some ((object text_16 (Some (text_17 ∷ [])) (Some (text_19 ∷ [])) None None (Some text_22) text_20) ∷ [])))
    ∷ line 1700000009 (words [] 1) (Modify text_3 text_53
    (request_of ((ask_of (Some text_31)
    ((Reference text_5) ∷ (object text_16 (Some (text_17 ∷ text_18 ∷ [])) (Some (text_19 ∷ [])) None None None text_20)
    ∷ (object text_16 (Some (text_17 ∷ text_18 ∷ [])) (Some (text_19 ∷ [])) None None None text_20) ∷ []) true)
    ∷ (ask_of (Some text_41) ((object text_16 (Some (text_17 ∷ [])) (Some (text_19 ∷ [])) None None (Some text_22) text_20) ∷ []) false) ∷ []) false false
    (Some text_3) false None (Some (modes_of true true false None))))
    ∷ line 1700000010 (words (1 ∷ 1 ∷ []) 0) (Decide text_14 (decide_of text_36 Grant (Some ((Reference text_5) ∷ [])) (Some text_56)))
    ∷ line 1700000610 (words [] 0) (Cancel text_3 text_34)
    ∷ line 1700000616 (words [] 0) (Cancel text_3 text_53)
    ∷ line 1700001210 (words [] 25600000000) Lapse
    ∷ []

pub history_36 : outcomes rules_1 [] lines_36 ≡
    out (Pending text_53 (modes_of true true false None) text_52 text_35 (replicate 32 0) 600 None)
    (opened 1 text_3 false None 1702592001
    ∷ terms 1 ((ask_of None ((object text_5 None None (Some (text_23 ∷ text_24 ∷ [])) (Some (text_25 ∷ [])) None text_20) ∷ (Reference text_5)
    ∷ (object text_16 (Some (text_17 ∷ [])) (Some (text_21 ∷ [])) None None None text_20) ∷ []) false) ∷ []) false false ∷ Door 1 text_53 1700000006
    ∷ pended 1 1700000601 1700001201 (modes_of true true false None) text_52 (Some text_35) None ∷ [])
    ∷ out (Decided None) (decided 1 Grant None
    ((object text_5 None None (Some (text_23 ∷ text_24 ∷ [])) (Some (text_25 ∷ [])) None text_20) ∷ (Reference text_5)
    ∷ (object text_16 (Some (text_17 ∷ [])) (Some (text_21 ∷ [])) None None None text_20) ∷ []) None ∷ [])
    ∷ out (Error InvalidContinuation) []
    ∷ out Inactive []
    ∷ out (Pending text_34 (modes_of true true false None) text_36 text_44 (replicate 32 0) 600 None)
    (terms 1 ((ask_of (Some text_31)
    ((Reference text_5) ∷ (object text_16 (Some (text_17 ∷ text_18 ∷ [])) (Some (text_19 ∷ [])) None None None text_20)
    ∷ (object text_16 (Some (text_17 ∷ text_18 ∷ [])) (Some (text_19 ∷ [])) None None None text_20) ∷ []) true)
    ∷ (ask_of (Some text_41) ((object text_16 (Some (text_17 ∷ [])) (Some (text_19 ∷ [])) None None (Some text_22) text_20) ∷ []) false) ∷ []) false false
    ∷ Door 1 text_34 1700000014 ∷ pended 1 1700000609 1700001209 (modes_of true true false None) text_36 (Some text_44) None ∷ [])
    ∷ out (Decided None) (decided 1 Grant None ((Reference text_5) ∷ []) (Some text_56) ∷ [])
    ∷ out Done (Finalized 1 ∷ [])
    ∷ out (Error InvalidContinuation) []
    ∷ out Lapsed []
    ∷ []
unfolding value_text encode_symbols code_text
history_36 = refl

-- ---- random history 37
abbrev lines_37 : List Line
lines_37 = line 1000 (words [] 1)
    (Begin text_3 (request_of ((ask_of None ((Reference text_6) ∷ []) false) ∷ []) false false (Some text_3) false (Some text_27)
    (Some (modes_of true true false None))) (Some 1001))
    ∷ line 1000 (words [] 18446744073709551615) (FindCode text_14 text_44)
    ∷ line 1000 (words [] 25599999999) (Decide text_14 (decide_of text_52 Grant None (Some text_56)))
    ∷ line 1004 (words (18446744073709551615 ∷ 18446744073709551615 ∷ 1 ∷ 1 ∷ 1 ∷ 6280542013672539707 ∷ 5010640981676124884 ∷ 18446744073709551615
    ∷ 502508376848838437 ∷ 6051641883321519575 ∷ 18446744073709551615 ∷ 18446744073709551615 ∷ 1 ∷ 15809574541376225918 ∷ 18446744073709551615
    ∷ 18446744073709551615 ∷ 1 ∷ 18446744073709551615 ∷ 18446744073709551615 ∷ 18446744073709551615 ∷ 1 ∷ 18446744073709551615 ∷ 18408866255167605725 ∷ 1
    ∷ 870966773649304523 ∷ 1 ∷ 1 ∷ 1 ∷ 1 ∷ 18446744073709551615 ∷ 18446744073709551615 ∷ 5132366387627042761 ∷ 18446744073709551615 ∷ 2602156462098263557 ∷ [])
    25599999999) (Continue text_3 text_53 (Some text_53))
    ∷ line 1010 (words [] 0) (Introspect text_9 text_52 None None)
    ∷ line 1010 (words (18446744073709551615 ∷ 15386040316828708197 ∷ []) 25600000001) (Introspect text_9 [] (Some Bearer) None)
    ∷ line 1012 (words [] 0) (FindCode text_14 text_35)
    ∷ line 1012 (words [] 0) (Decide text_14 (decide_of text_52 Unknown (Some ((Reference text_6) ∷ [])) (Some text_56)))
    ∷ []

pub history_37 : outcomes rules_0 [] lines_37 ≡
    out (Pending text_53 (modes_of true true false None) text_52 text_44 (replicate 32 0) 1 None)
    (opened 1 text_3 false (Some text_27) 1001 ∷ terms 1 ((ask_of None ((Reference text_6) ∷ []) false) ∷ []) false false ∷ Door 1 text_53 1005
    ∷ pended 1 1001 2200 (modes_of true true false None) text_52 (Some text_44) None ∷ [])
    ∷ out (Handle text_52) []
    ∷ out (Decided None) (decided 1 Grant None ((Reference text_6) ∷ []) (Some text_56) ∷ [])
    ∷ out (Error InvalidContinuation) []
    ∷ out Inactive []
    ∷ out Inactive []
    ∷ out (Error UnknownInteraction) []
    ∷ out (Error UnknownInteraction) []
    ∷ []
unfolding value_text encode_symbols code_text
history_37 = refl

-- ---- random history 38
abbrev lines_38 : List Line
lines_38 = line 1001 (words [] 25600000000)
    (Begin text_3 (request_of ((ask_of None ((object text_16 (Some (text_17 ∷ text_18 ∷ [])) (Some (text_19 ∷ [])) None None None text_20) ∷ []) false) ∷ [])
    false false (Some text_3) false (Some text_27) None) None)
    ∷ line 1006 (words (15108637641643678257 ∷ 6487371730949242654 ∷ 1 ∷ 14400368284460187125 ∷ 4228104827186400127 ∷ 18446744073709551615 ∷ []) 25599999999)
    (Continue text_3 text_34 None)
    ∷ line 1006 (words [] 0) (Revoke text_3 text_52)
    ∷ line 1011 (words [] 0) (Begin text_3
    (request_of ((ask_of (Some text_31) ((object text_16 (Some (text_17 ∷ text_18 ∷ [])) (Some (text_19 ∷ [])) None None None text_20) ∷ []) true)
    ∷ (ask_of (Some text_41) ((object text_16 (Some (text_17 ∷ [])) (Some (text_21 ∷ [])) None None None text_20)
    ∷ (object text_16 (Some (text_17 ∷ text_18 ∷ [])) (Some (text_19 ∷ [])) None None None text_20) ∷ []) false)
    ∷ (ask_of (Some text_66) ((object text_16 (Some (text_17 ∷ text_18 ∷ [])) (Some (text_19 ∷ [])) None None None text_20) ∷ []) false)
    ∷ (ask_of (Some text_67) ((object text_16 (Some (text_17 ∷ text_18 ∷ [])) (Some (text_19 ∷ [])) None None None text_20) ∷ []) false)
    ∷ (ask_of (Some text_68) ((object text_16 (Some (text_17 ∷ [])) (Some (text_19 ∷ text_21 ∷ [])) None None None text_20)
    ∷ (object text_16 (Some (text_17 ∷ text_18 ∷ [])) (Some (text_19 ∷ [])) None None None text_20) ∷ (Reference text_5) ∷ []) false)
    ∷ (ask_of (Some text_69) ((object text_16 (Some (text_17 ∷ text_18 ∷ [])) (Some (text_19 ∷ [])) None None None text_20)
    ∷ (object text_16 (Some (text_17 ∷ text_18 ∷ [])) (Some (text_19 ∷ [])) None None None text_20) ∷ []) false)
    ∷ (ask_of (Some text_70) ((object text_16 (Some (text_17 ∷ text_18 ∷ [])) (Some (text_19 ∷ [])) None None None text_20) ∷ []) false)
    ∷ (ask_of (Some text_71) ((object text_16 (Some (text_17 ∷ text_18 ∷ [])) (Some (text_19 ∷ [])) None None None text_20)
    ∷ (object text_16 None None None None None text_20) ∷ []) false) ∷ []) false false (Some text_3) true None (Some (modes_of false false false None))) None)
    ∷ line 1011 (words [] 0) (Begin text_7
    (request_of ((ask_of (Some text_31) ((Reference text_6) ∷ (Reference text_6) ∷ []) false) ∷ (ask_of (Some text_41) ((Reference []) ∷ []) false)
    ∷ (ask_of (Some text_66) ((Reference text_5) ∷ []) false)
    ∷ (ask_of (Some text_67) ((Reference text_5) ∷ (object text_16 (Some []) (Some (text_19 ∷ [])) None None None text_20) ∷ (Reference text_16) ∷ []) false)
    ∷ (ask_of (Some text_68) ((Reference text_5) ∷ (Reference text_16) ∷ (Reference text_5) ∷ []) false)
    ∷ (ask_of (Some text_69) ((Reference text_5) ∷ (Reference text_5) ∷ []) false) ∷ (ask_of (Some text_70) ((Reference text_5) ∷ []) false)
    ∷ (ask_of (Some text_71) ((Reference text_16) ∷ (Reference text_16) ∷ (Reference text_16) ∷ []) true) ∷ []) false false (Some text_7) false (Some text_27)
    None) (Some 2210))
    ∷ line 1012 (words (3416142842631244332 ∷ 6285861046180105870 ∷ 6542909425890410336 ∷ 18446744073709551615 ∷ 1 ∷ 15914765186015007666 ∷ 6794392769297202753
    ∷ 1 ∷ 1 ∷ 18446744073709551615 ∷ 18446744073709551615 ∷ 1 ∷ 1 ∷ 4566207934152274200 ∷ 18446744073709551615 ∷ 18446744073709551615 ∷ 1 ∷ 1
    ∷ 2159791120325722702 ∷ 1 ∷ 18446744073709551615 ∷ 2383992985317587765 ∷ 1 ∷ 18446744073709551615 ∷ 1 ∷ 8337940014925910994 ∷ 1 ∷ 273848641591958150 ∷ 1
    ∷ 18446744073709551615 ∷ 479311128628456871 ∷ 1 ∷ 18106224106342506276 ∷ 18446744073709551615 ∷ []) 0)
    (Begin text_3 (request_of ((ask_of (Some text_31) ((object text_16 None None None None None text_20) ∷ (Reference text_5) ∷ []) true)
    ∷ (ask_of (Some text_41) ((object text_16 (Some (text_17 ∷ text_18 ∷ [])) (Some (text_19 ∷ [])) None None None text_20)
    ∷ (object text_16 (Some (text_17 ∷ text_18 ∷ [])) (Some (text_19 ∷ [])) None None None text_20) ∷ []) false)
    ∷ (ask_of (Some text_66) ((object text_16 (Some (text_17 ∷ text_18 ∷ [])) (Some (text_19 ∷ [])) None None None text_20)
    ∷ (object text_16 None None None None None text_20) ∷ []) true)
    ∷ (ask_of (Some text_67) ((object text_16 (Some (text_17 ∷ text_18 ∷ [])) (Some (text_19 ∷ [])) None None None text_20) ∷ []) false) ∷ []) false false
    (Some text_3) false (Some text_27) (Some (modes_of true true true (Some (finish_by true text_64 text_60 false))))) None)
    ∷ line 1014 (words [] 0) (Decide text_14
    (decide_of text_102 Grant (Some ((object text_16 (Some (text_17 ∷ text_18 ∷ [])) (Some (text_19 ∷ [])) None None None text_20) ∷ [])) (Some text_56)))
    ∷ []

pub history_38 : outcomes rules_2 [] lines_38 ≡
    out (Granted text_34 ((token_out text_53 text_52 None ((object text_16 (Some (text_17 ∷ text_18 ∷ [])) (Some (text_19 ∷ [])) None None None text_20) ∷ [])
    3600 false) ∷ []) false None None)
    (opened 1 text_3 false (Some text_27) 2593001
    ∷ terms 1 ((ask_of None ((object text_16 (Some (text_17 ∷ text_18 ∷ [])) (Some (text_19 ∷ [])) None None None text_20) ∷ []) false) ∷ []) false false
    ∷ Approved 1 [] ∷ issued 1 1 None ((object text_16 (Some (text_17 ∷ text_18 ∷ [])) (Some (text_19 ∷ [])) None None None text_20) ∷ []) false text_3 1001
    4601 text_53 text_52 ∷ Door 1 text_34 1006 ∷ [])
    ∷ out (Continuing text_103) (Door 1 text_103 1011 ∷ [])
    ∷ out Done (Retired 1 ByRevocation ∷ [])
    ∷ out (Error RequestDenied) []
    ∷ out (Error RequestDenied) []
    ∷ out (Pending text_104 (modes_of true true true (Some (finish_by true text_64 text_60 false))) text_102 text_35 text_105 600 None)
    (opened 2 text_3 false (Some text_27) 2593012
    ∷ terms 2 ((ask_of (Some text_31) ((object text_16 None None None None None text_20) ∷ (Reference text_5) ∷ []) true)
    ∷ (ask_of (Some text_41) ((object text_16 (Some (text_17 ∷ text_18 ∷ [])) (Some (text_19 ∷ [])) None None None text_20)
    ∷ (object text_16 (Some (text_17 ∷ text_18 ∷ [])) (Some (text_19 ∷ [])) None None None text_20) ∷ []) false)
    ∷ (ask_of (Some text_66) ((object text_16 (Some (text_17 ∷ text_18 ∷ [])) (Some (text_19 ∷ [])) None None None text_20)
    ∷ (object text_16 None None None None None text_20) ∷ []) true)
    ∷ (ask_of (Some text_67) ((object text_16 (Some (text_17 ∷ text_18 ∷ [])) (Some (text_19 ∷ [])) None None None text_20) ∷ []) false) ∷ []) false false
    ∷ Door 2 text_104 1017 ∷ pended 2 1612 2212 (modes_of true true true (Some (finish_by true text_64 text_60 false))) text_102 (Some text_35) (Some text_105)
    ∷ [])
    ∷ out (Decided (Some (finish_out (finish_by true text_64 text_60 false) text_105 text_49)))
    (decided 2 Grant (Some text_49) ((object text_16 (Some (text_17 ∷ text_18 ∷ [])) (Some (text_19 ∷ [])) None None None text_20) ∷ []) (Some text_56) ∷ [])
    ∷ []
unfolding value_text encode_symbols code_text
history_38 = refl

pub tokens_38 : told rules_2 lines_38 (asked 2593012 (text_53 ∷ []) ∷ asked 2593000 (text_53 ∷ []) ∷ asked 1017 (text_53 ∷ []) ∷ [])
    ≡ (false ∷ false ∷ false ∷ false ∷ false ∷ false ∷ [])
unfolding value_text encode_symbols code_text
tokens_38 = refl

-- ---- random history 39
abbrev lines_39 : List Line
lines_39 = line 1005 (words [] 0)
    (Begin text_3 (request_of ((ask_of (Some text_31) ((Reference text_5) ∷ []) false) ∷ (ask_of (Some text_41) ((Reference text_5) ∷ []) false)
    ∷ (ask_of (Some text_66) ((object text_16 (Some (text_17 ∷ text_18 ∷ [])) (Some (text_19 ∷ [])) None None None text_20) ∷ []) false)
    ∷ (ask_of (Some text_67) ((object text_16 (Some (text_17 ∷ [])) (Some (text_21 ∷ [])) None None None text_20) ∷ []) false)
    ∷ (ask_of (Some text_68) ((object text_16 (Some (text_17 ∷ text_18 ∷ [])) (Some (text_19 ∷ [])) None None None text_20) ∷ []) true)
    ∷ (ask_of (Some text_69) ((object text_16 (Some (text_17 ∷ text_18 ∷ [])) (Some (text_19 ∷ [])) None None None text_20) ∷ []) false)
    ∷ (ask_of (Some text_70) ((Reference text_5) ∷ []) false)
    ∷ (ask_of (Some text_71) ((object text_16 (Some (text_17 ∷ [])) (Some (text_21 ∷ [])) None None None text_20) ∷ []) false) ∷ []) false false (Some text_3)
    false (Some text_27) None) (Some 2199))
    ∷ line 1008 (words (18446744073709551615 ∷ 18446744073709551615 ∷ 18446744073709551615 ∷ 1 ∷ 1 ∷ 18446744073709551615 ∷ []) 2) (Rotate text_3 text_51 None)
    ∷ line 1009 (words [] 0) (Modify text_3 text_106
    (request_of ((ask_of (Some text_31) ((Reference text_5) ∷ []) false) ∷ (ask_of (Some text_41) ((Reference text_6) ∷ []) false) ∷ []) false false
    (Some text_3) false None (Some (modes_of false true false (Some (finish_by false text_32 text_33 true))))))
    ∷ line 1014 (words (1 ∷ 18446744073709551615 ∷ 18446744073709551615 ∷ 412536867617560166 ∷ 18446744073709551615 ∷ 1 ∷ []) 0) (Look text_14 text_107)
    ∷ line 2200 (words [] 18446744073709551615) (Continue text_3 text_108 None)
    ∷ line 2205 (words [] 25600000000) (Revoke text_3 text_76)
    ∷ []

pub history_39 : outcomes rules_1 [] lines_39 ≡
    out (Granted text_106 ((token_out text_53 text_52 (Some text_31) ((Reference text_5) ∷ []) 1194 false)
    ∷ (token_out text_34 text_36 (Some text_41) ((Reference text_5) ∷ []) 1194 false)
    ∷ (token_out text_45 text_47 (Some text_66) ((object text_16 (Some (text_17 ∷ text_18 ∷ [])) (Some (text_19 ∷ [])) None None None text_20) ∷ []) 1194
    false) ∷ (token_out text_48 text_49 (Some text_67) ((object text_16 (Some (text_17 ∷ [])) (Some (text_21 ∷ [])) None None None text_20) ∷ []) 1194
    false) ∷ (token_out text_42 text_46 (Some text_68) ((object text_16 (Some (text_17 ∷ text_18 ∷ [])) (Some (text_19 ∷ [])) None None None text_20) ∷ [])
    1194 true) ∷ (token_out text_50 text_51 (Some text_69)
    ((object text_16 (Some (text_17 ∷ text_18 ∷ [])) (Some (text_19 ∷ [])) None None None text_20) ∷ []) 1194 false)
    ∷ (token_out text_74 text_76 (Some text_70) ((Reference text_5) ∷ []) 1194 false)
    ∷ (token_out text_75 text_101 (Some text_71) ((object text_16 (Some (text_17 ∷ [])) (Some (text_21 ∷ [])) None None None text_20) ∷ []) 1194 false)
    ∷ []) false None None) (opened 1 text_3 false (Some text_27) 2199
    ∷ terms 1 ((ask_of (Some text_31) ((Reference text_5) ∷ []) false) ∷ (ask_of (Some text_41) ((Reference text_5) ∷ []) false)
    ∷ (ask_of (Some text_66) ((object text_16 (Some (text_17 ∷ text_18 ∷ [])) (Some (text_19 ∷ [])) None None None text_20) ∷ []) false)
    ∷ (ask_of (Some text_67) ((object text_16 (Some (text_17 ∷ [])) (Some (text_21 ∷ [])) None None None text_20) ∷ []) false)
    ∷ (ask_of (Some text_68) ((object text_16 (Some (text_17 ∷ text_18 ∷ [])) (Some (text_19 ∷ [])) None None None text_20) ∷ []) true)
    ∷ (ask_of (Some text_69) ((object text_16 (Some (text_17 ∷ text_18 ∷ [])) (Some (text_19 ∷ [])) None None None text_20) ∷ []) false)
    ∷ (ask_of (Some text_70) ((Reference text_5) ∷ []) false)
    ∷ (ask_of (Some text_71) ((object text_16 (Some (text_17 ∷ [])) (Some (text_21 ∷ [])) None None None text_20) ∷ []) false) ∷ []) false false
    ∷ Approved 1 [] ∷ issued 1 1 (Some text_31) ((Reference text_5) ∷ []) false text_3 1005 2199 text_53 text_52
    ∷ issued 3 1 (Some text_41) ((Reference text_5) ∷ []) false text_3 1005 2199 text_34 text_36
    ∷ issued 5 1 (Some text_66) ((object text_16 (Some (text_17 ∷ text_18 ∷ [])) (Some (text_19 ∷ [])) None None None text_20) ∷ []) false text_3 1005 2199
    text_45 text_47 ∷ issued 7 1 (Some text_67) ((object text_16 (Some (text_17 ∷ [])) (Some (text_21 ∷ [])) None None None text_20) ∷ []) false text_3 1005
    2199 text_48 text_49 ∷ issued 9 1 (Some text_68) ((object text_16 (Some (text_17 ∷ text_18 ∷ [])) (Some (text_19 ∷ [])) None None None text_20) ∷ [])
    true text_3 1005 2199 text_42 text_46
    ∷ issued 11 1 (Some text_69) ((object text_16 (Some (text_17 ∷ text_18 ∷ [])) (Some (text_19 ∷ [])) None None None text_20) ∷ []) false text_3 1005 2199
    text_50 text_51 ∷ issued 13 1 (Some text_70) ((Reference text_5) ∷ []) false text_3 1005 2199 text_74 text_76
    ∷ issued 15 1 (Some text_71) ((object text_16 (Some (text_17 ∷ [])) (Some (text_21 ∷ [])) None None None text_20) ∷ []) false text_3 1005 2199 text_75
    text_101 ∷ Door 1 text_106 1010 ∷ [])
    ∷ out (Rotated (token_out text_109 text_110 (Some text_69)
    ((object text_16 (Some (text_17 ∷ text_18 ∷ [])) (Some (text_19 ∷ [])) None None None text_20) ∷ []) 1191 false))
    (Retired 11 ByRotation ∷ issued 18 1 (Some text_69) ((object text_16 (Some (text_17 ∷ text_18 ∷ [])) (Some (text_19 ∷ [])) None None None text_20) ∷ [])
    false text_3 1008 2199 text_109 text_110 ∷ [])
    ∷ out (Pending text_108 (modes_of false true false (Some (finish_by false text_32 text_33 true))) text_107 text_35 text_111 600 None)
    (Retired 1 ByModification ∷ Retired 3 ByModification ∷ Retired 5 ByModification ∷ Retired 7 ByModification ∷ Retired 9 ByModification
    ∷ Retired 13 ByModification ∷ Retired 15 ByModification ∷ Retired 18 ByModification
    ∷ terms 1 ((ask_of (Some text_31) ((Reference text_5) ∷ []) false) ∷ (ask_of (Some text_41) ((Reference text_6) ∷ []) false) ∷ []) false false
    ∷ Door 1 text_108 1014 ∷ pended 1 1609 2209 (modes_of false true false (Some (finish_by false text_32 text_33 true))) text_107 (Some text_35)
    (Some text_111) ∷ [])
    ∷ out (Shown ((ask_of (Some text_31) ((Reference text_5) ∷ []) false) ∷ (ask_of (Some text_41) ((Reference text_6) ∷ []) false) ∷ []) text_3 595 false
    (Some text_27)) []
    ∷ out (Error InvalidContinuation) []
    ∷ out (Error InvalidRequest) []
    ∷ []
unfolding value_text encode_symbols code_text
history_39 = refl

pub tokens_39 : told rules_1 lines_39
    (asked 2209 (text_74 ∷ text_75 ∷ text_53 ∷ text_34 ∷ text_45 ∷ text_48 ∷ text_42 ∷ text_50 ∷ text_109 ∷ [])
    ∷ asked 2208 (text_74 ∷ text_75 ∷ text_53 ∷ text_34 ∷ text_45 ∷ text_48 ∷ text_42 ∷ text_50 ∷ text_109 ∷ [])
    ∷ asked 2205 (text_74 ∷ text_75 ∷ text_53 ∷ text_34 ∷ text_45 ∷ text_48 ∷ text_42 ∷ text_50 ∷ text_109 ∷ []) ∷ [])
    ≡ (false ∷ false ∷ false ∷ false ∷ false ∷ false ∷ false ∷ false ∷ false ∷ false ∷ false ∷ false ∷ false ∷ false ∷ false ∷ false ∷ false ∷ false ∷ false
    ∷ false ∷ false ∷ false ∷ false ∷ false ∷ false ∷ false ∷ false ∷ false ∷ false ∷ false ∷ false ∷ false ∷ false ∷ false ∷ false ∷ false ∷ false ∷ false
    ∷ false ∷ false ∷ false ∷ false ∷ false ∷ false ∷ false ∷ false ∷ false ∷ false ∷ false ∷ false ∷ false ∷ false ∷ false ∷ false ∷ [])
unfolding value_text encode_symbols code_text
tokens_39 = refl
