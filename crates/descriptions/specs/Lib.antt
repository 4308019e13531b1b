pub mod DescriptionsJudged
