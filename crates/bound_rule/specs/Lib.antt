pub mod GoodPoll
